-- A class past the end of the list runs no body.
use Rattle.std.proofs.Common.{◌≡◌, ℕ, zero, suc, ◌≤◌, [], length, Option, Some, None, refl, arith}
use Rattle.std.proofs.lemmas.Option.{slice_get_past}
use Rattle.fact_model.specs.Classes.{own_body, finds_within, finds}
use Rattle.fact_model.specs.InRange.{InRange}
use Rattle.fact_model.specs.declared.facts.Facts.{Facts}
use Rattle.fact_model.specs.declared.facts.ColKind.TheVariants.{Is}
use Rattle.fact_model.proofs.ClassLemmas.{own_body-Some}

module _ (F : Facts) where
  no_body : InRange F → (a x : ℕ) → length F.classes.items ≤ a → (o : Option ℕ) → own_body F a x ≡ o → o ≡ None
  no_body R a x past None e = refl
  no_body R a x past (Some d) e =
      let is = own_body-Some F a x d e in
      let lt = R.columns d (record { kind = Is; class = record { 0 = 0 }; slot = None; name = []; label = [] }) is.below in
      absurd (omega (arith, past, lt, is.class))

  finds_in_past : InRange F → (n a x : ℕ) → length F.classes.items ≤ a → finds_within F n a x ≡ None
  finds_in_past R zero a x past = no_body R a x past (own_body F a x) refl
  finds_in_past R (suc n) a x past = rw (no_body R a x past (own_body F a x) refl, slice_get_past F.classes.items a past) refl

  pub finds_past : InRange F → (a x : ℕ) → length F.classes.items ≤ a → finds F a x ≡ None
  finds_past R a x past = finds_in_past R (length F.classes.items) a x past
