use Rattle.std.proofs.Common.{◌∙◌, sym, arith}
use Rattle.kaba_bits.proofs.SetLemmas.{bit-below}
use Rattle.hier_rules.specs.Obligations.{is_nearer}
use Rattle.hier_rules.proofs.AnyLemmas.{none_next, none_left}
use Rattle.hier_rules.proofs.IndexLemmas.{none_nearer}
use Rattle.hier_rules.proofs.touched.has_nearer_rival.Goals as goal

pub is_nearer-requires-clause-other : goal.is_nearer-requires-clause-other
is_nearer-requires-clause-other c =
    let lt = bit-below c.args.rivals.now c.in-Some.e c.in-Some.ensures.holds in
    omega (arith, lt, c.requires.rivals.width_is)

pub scan-preserved : goal.scan-preserved
scan-preserved c =
    let lt = bit-below c.args.rivals.now c.in-Some.e c.in-Some.ensures.holds in
    record {
      below = omega (arith, lt);
      none = none_next c.args.rivals.now (is_nearer c.args.asked.now.facts.now c.args.asked.now.hier.now c.args.n.0 c.args.d) c.scan.at c.in-Some.e
          c.scan.invariant.none c.in-Some.ensures (sym c.is_nearer.ensures ∙ c.if-is_nearer.false);
    }

pub returns : goal.returns
returns c =
    let F = c.args.asked.now.facts.now in
    let H = c.args.asked.now.hier.now in
    none_nearer F c.args.asked.now.pt.now H c.args.n.0 c.args.d c.args.rivals.now c.requires.rivals
    (none_left c.args.rivals.now (is_nearer F H c.args.n.0 c.args.d) c.scan.at c.scan.invariant.none c.in_default.ensures)
