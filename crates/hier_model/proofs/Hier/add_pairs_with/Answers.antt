use Rattle.std.proofs.Common.{◌+◌, ◌++◌, length, arith, ap, sym, ◌∙◌}
use Rattle.kaba_bits.proofs.SetLemmas.{bit-below}
use Rattle.hier_model.specs.Differences.{pair_change}
use Rattle.hier_model.proofs.EachLemmas.{each_below-past}
use Rattle.hier_model.proofs.ChangeSteps.{listed_more, no_change}
use Rattle.hier_model.proofs.Hier.add_pairs_with.Goals as goal

pub pairs-preserved : goal.pairs-preserved
pairs-preserved c =
    let old = c.args.self.now in
    let new = c.args.newer.now in
    let a = c.args.a.0 in
    let b = c.in-Some.b in
    let before = c.args.changes.now.items in
    let found = c.in-Some.ensures in
    let lt = bit-below c.args.others.now b found.holds in
    let passed = each_below-past c.pairs.at b (pair_change old new a) found.low
    (λ k low below. no_change old new a k (sym (c.requires.others k) ∙ found.least k low below)) in
    record {
      below = omega (arith, lt);
      listed = listed_more before c.pairs.changes.items c.add_pair.new.changes.items b (pair_change old new a)
          (c.pairs.invariant.listed ∙ ap (λ l. before ++ l) (sym passed)) c.in_ok-add_pair.ensures;
    }

pub returns : goal.returns
returns c =
    let old = c.args.self.now in
    let new = c.args.newer.now in
    let a = c.args.a.0 in
    let n = length old.order.live in
    let none = c.in_default.ensures in
    let passed = each_below-past c.pairs.at n (pair_change old new a) (omega (arith, c.pairs.invariant.below, c.requires.width))
    (λ k low below. no_change old new a k (sym (c.requires.others k) ∙ none k low (omega (arith, below, c.requires.width)))) in
    c.pairs.invariant.listed ∙ ap (λ l. c.args.changes.now.items ++ l) (sym passed)
