-- A trail is found only of an entry that is there.
use Rattle.std.proofs.Common.{◌≡◌, ◌⊎◌, inl, inr, ⊎_elim, ℕ, ◌<◌, Bool, true, false, length, Result, Ok, Err, refl, sym, ◌∙◌, arith}
use Rattle.std.proofs.lemmas.Bool.{false≢true, cases_lt}
use Rattle.kaba_bits.specs.Sets.{bit, row}
use Rattle.fact_model.specs.declared.facts.Facts.{Facts}
use Rattle.fact_model.specs.declared.sets.Table.{Table}
use Rattle.fact_model.specs.Entries.{IsTable}
use Rattle.why_table.specs.declared.trail.Trail.{Trail}
use Rattle.why_table.specs.declared.WhyFault.{WhyFault}
use Rattle.why_table.specs.declared.WhyFault.TheVariants as faults
use Rattle.why_table.specs.Found.{HasEntry}

module _ (F : Facts) (t : Table) (is : IsTable F t) (r c : ℕ) where
  by_bit : r < length F.rows.items → c < length F.columns.items → (b : Bool) → bit (row t.rows.items r) c ≡ b
      → HasEntry F r c ⊎ (HasEntry F r c → ⊥)
  by_bit below within true e = inl (record { row = below; column = within; entry = (is.entries r c).0 e })
  by_bit below within false e = inr (λ h. false≢true (sym e ∙ (is.entries r c).1 h.entry))

  -- the entry is there, or it is not
  entry_or_none : HasEntry F r c ⊎ (HasEntry F r c → ⊥)
  entry_or_none = ⊎_elim
      (λ below. ⊎_elim (λ within. by_bit below within (bit (row t.rows.items r) c) refl) (λ past. inr (λ h. omega (arith, past, h.column)))
      (cases_lt c (length F.columns.items)))
      (λ past. inr (λ h. omega (arith, past, h.row))) (cases_lt r (length F.rows.items))

  no_fault : {trail : Trail} → ◌≡◌ {A = Result Trail WhyFault} (Ok trail) (Err faults.NoEntry) → ⊥
  no_fault e = cc e

  -- what a trail was found of is an entry
  pub entry_there : (found : Result Trail WhyFault) (trail : Trail) → found ≡ Ok trail → ((HasEntry F r c → ⊥) → found ≡ Err faults.NoEntry)
      → HasEntry F r c
  entry_there found trail e absent = ⊎_elim (λ h. h) (λ none. absurd (no_fault (sym e ∙ absent none))) entry_or_none
