use Rattle.std.proofs.Common.{◌≡◌, ◌∙◌, true, false, refl, sym, ap, drop, rules, ◌+◌}
use Rattle.std.specs.Prelude.{◌&&◌}
use Rattle.std.proofs.lemmas.Fn.{says_at_two}
use Rattle.java_compare.specs.Same.{all_same}
use Rattle.java_compare.proofs.Sameness.{all_at}
use Rattle.java_compare.proofs.pairs.equal_lists.Goals as goal

pub returns-then-not-equal : goal.returns-then-not-equal
returns-then-not-equal g c = record {
  value = λ same h.
      let e = h c.index-a-i.result c.index-b-i.result c.equal.result (says_at_two g.F.Fn c.equal.ensures refl) in
      let n : c.equal.result ≡ false = search rules in
      sym (sym (c.loop-i.invariant same h)
      ∙ all_at same c.args.a.now c.args.b.now c.loop-i.i _ _ _ c.loop-i-test.true c.if-a-b.false c.index-a-i.is c.index-b-i.is e
      ∙ ap (λ r. r && all_same same (drop (c.loop-i.i + 1) c.args.a.now) (drop (c.loop-i.i + 1) c.args.b.now)) n);
}

pub loop-i-preserved : goal.loop-i-preserved
loop-i-preserved g c same h =
    let e = h c.index-a-i.result c.index-b-i.result c.equal.result (says_at_two g.F.Fn c.equal.ensures refl) in
    let n : c.equal.result ≡ true = search rules in
    sym (all_at same c.args.a.now c.args.b.now c.loop-i.i _ _ _ c.loop-i-test.true c.if-a-b.false c.index-a-i.is c.index-b-i.is e
    ∙ ap (λ r. r && all_same same (drop (c.loop-i.i + 1) c.args.a.now) (drop (c.loop-i.i + 1) c.args.b.now)) n)
    ∙ c.loop-i.invariant same h
