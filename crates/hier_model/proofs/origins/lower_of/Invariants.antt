use Rattle.std.proofs.Common.{◌≡◌, ℕ, ◌<◌, true, get_or, Contains}
use Rattle.kaba_base.specs.declared.ClassId.{ClassId}
use Rattle.hier_model.specs.Start.{is_below_all}
use Rattle.hier_model.proofs.origins.lower_of.Given as goal

abbrev pub invariant-loop-class : goal.invariant-loop-class
invariant-loop-class l = record {
  member : Contains l.classes l.lower;
  only : (j : ℕ) (d : ClassId) → j < l.class-index → is_below_all l.facts l.classes (get_or l.classes j d) ≡ true → l.lower ≡ get_or l.classes j d;
}
