-- The worked program of a hierarchy has what a written one has; and an int that is filled in for is 0.
use Rattle.std.proofs.Common.{◌≡◌, ℕ, zero, suc, Some, sym, ap}
use Rattle.std.specs.Prelude.{true, slice_get}
use Rattle.std.proofs.lemmas.Option.{same_Some}
use Rattle.java_core.specs.declared.TyBase.TheVariants.{Int}
use Rattle.java_core.specs.Trees.{no_st}
use Rattle.java_core.specs.Programs.{PlainMethod}
use Rattle.java_core.specs.Types.{plain_type}
use Rattle.fact_model.specs.declared.facts.Facts.{Facts}
use Rattle.rebuild_model.specs.Written.{IsFilling, IsWritten}
use Rattle.rebuild_model.proofs.Worked.{old, new, hierarchy, places}
use Rattle.rebuild_model.proofs.WorkedRebuilds.{facts, no_filler}

module _ (others : Facts) where
  all_public : (g : ℕ) (k : PlainMethod) → slice_get new.methods g ≡ Some k → k.is_public ≡ true
  all_public zero k e = sym (ap (λ (m : PlainMethod). m.is_public) (same_Some _ k e))
  all_public (suc zero) k e = sym (ap (λ (m : PlainMethod). m.is_public) (same_Some _ k e))
  all_public (suc (suc zero)) k e = sym (ap (λ (m : PlainMethod). m.is_public) (same_Some _ k e))
  all_public (suc (suc (suc g))) k e = absurd (cc e)

  pub worked : IsWritten old (facts others) hierarchy new places
  worked = record { public = λ g k e i c. all_public g k e; fillers = λ g n m k e f. absurd (no_filler others n f.of.was.slot f.live f.filled) }

pub no_empty : IsFilling (Some (plain_type Int)) no_st → ⊥
no_empty x = elim x [ ]
