use Rattle.std.proofs.Common.{◌∙◌, refl, sym, ap₂}
use Rattle.std.proofs.lemmas.Fn.{says_at_two}
use Rattle.java_compare.specs.Same.{may_same}
use Rattle.java_compare.proofs.pairs.equal_options.Goals as goal

pub returns : goal.returns
returns g c = record {
  value = λ same h. h c.in-Some.one c.in-Some-b-2.other c.equal.result (says_at_two g.F.Fn c.equal.ensures refl)
      ∙ ap₂ (may_same same) (sym c.in-Some.is) (sym c.in-Some-b-2.is);
}
