-- A worked trail, of a program with students and professors: `Person q = s1;` and `q.where()` give the variable s1 the declaration of
-- `where`. The trail passes, and with the two rows exchanged it does not.
use Rattle.std.proofs.Common.{◌≡◌, ℕ, zero, suc, ◌<◌, ◌≤◌, true, List, [], ◌∷◌, None, refl, length, codes, lit≤, lit<, arith}
use Rattle.std.specs.Fmt.{digits}
use Rattle.std.specs.declared.vec.Vec.{Vec}
use Rattle.std.specs.declared.alloc.Global.{Global}
use Rattle.std.proofs.lemmas.Bool.{false≢true}
use Rattle.std.proofs.lemmas.List.Elements.{All-nil, All-from_recursion}
use Rattle.fact_model.specs.declared.facts.Facts.{Facts}
use Rattle.fact_model.specs.declared.facts.ColumnInfo.{ColumnInfo}
use Rattle.fact_model.specs.declared.facts.ColKind.{ColKind}
use Rattle.fact_model.specs.declared.facts.ColKind.TheVariants.{Fld, Dcl, Def}
use Rattle.fact_model.specs.declared.facts.AccessInfo.{AccessInfo}
use Rattle.fact_model.specs.declared.facts.TieInfo.{TieInfo}
use Rattle.why_table.specs.Rules.{t2, t8}
use Rattle.why_table.specs.Trails.{Passes}
use Rattle.why_table.specs.Text.{trail_text}
use Rattle.why_table.specs.Tests.{test_t2}
use Rattle.why_table.proofs.EntryTests.{same_t2}
use Rattle.why_table.specs.declared.trail.Claim.{Claim}
use Rattle.why_table.specs.declared.trail.Claim.TheVariants.{Entry}
use Rattle.why_table.specs.declared.trail.WhyRule.TheVariants.{T2, T8}
use Rattle.why_table.specs.declared.trail.WhyStep.{WhyStep}

abbrev column : ColKind → ℕ → ColumnInfo
column kind class = record { kind = kind; class = record { 0 = class }; slot = None; name = []; label = [] }

-- Person has name, address and where; Student advisor and setAdvisor; Professor office, assistant, where and hire
abbrev the_columns : List ColumnInfo
the_columns =
    column Fld 1 ∷ column Fld 1 ∷ column Dcl 1 ∷ column Def 1 ∷ column Fld 2 ∷ column Dcl 2 ∷ column Def 2 ∷ column Fld 3 ∷ column Fld 3 ∷ column Dcl 3
    ∷ column Def 3 ∷ column Dcl 3 ∷ column Def 3 ∷ []

abbrev access : ℕ → ℕ → AccessInfo
access r c = record { row = record { 0 = r }; column = record { 0 = c } }

abbrev the_accesses : List AccessInfo
the_accesses =
    access 0 1 ∷ access 2 4 ∷ access 5 7 ∷ access 6 8 ∷ access 8 0 ∷ access 8 1 ∷ access 10 0 ∷ access 12 0 ∷ access 12 7 ∷ access 8 5 ∷ access 12 11
    ∷ access 14 0 ∷ access 14 2 ∷ access 8 4 ∷ access 1 0 ∷ []

abbrev tie : ℕ → ℕ → TieInfo
tie lower upper = record { lower = record { 0 = lower }; upper = record { 0 = upper } }

abbrev the_ties : List TieInfo
the_ties = tie 3 1 ∷ tie 7 4 ∷ tie 9 8 ∷ tie 11 10 ∷ tie 13 12 ∷ tie 12 3 ∷ tie 8 7 ∷ tie 8 14 ∷ tie 12 14 ∷ []

-- a list where one of other items stands
abbrev listed : {A B : Type 0} → Vec A Global → (xs : List B) → length xs ≤ 15 → Vec B Global
listed v xs fits = record { ptr = v.ptr; len = length xs; cap = 15; alloc = v.alloc; items = xs; ok = (refl, fits); small = lit< tt }

abbrev entry : ℕ → ℕ → Claim
entry r c = Entry (record { 0 = r }) (record { 0 = c })

-- the facts of the program, as far as this trail asks them
module _ (others : Facts) where
  abbrev facts : Facts
  facts = record others {
    columns = listed others.columns the_columns (lit≤ tt);
    accesses = listed others.accesses the_accesses (lit≤ tt);
    ties = listed others.ties the_ties (lit≤ tt);
  }

  -- a call on the row `called`, and a tie to it
  abbrev trail : ℕ → ℕ → List WhyStep
  trail called lower =
      record { claim = entry called 2; rule = T2; from = listed others.ties [] (lit≤ tt) }
      ∷ record { claim = entry lower 2; rule = T8; from = listed others.ties (0 ∷ []) (lit≤ tt) } ∷ []

  pub worked_text : trail_text (trail 14 8) ≡ codes "proof 2\ns0 r14 c2 by T2\ns1 r8 c2 by T8 s0\n"
  unfolding digits
  worked_text = refl

  pub worked_passes : Passes facts (trail 14 8)
  worked_passes zero d lt = record { earlier = All-nil (λ j. j < 0); given = t2 (access 14 2) (12, lit< tt, refl) refl }
  worked_passes (suc zero) d lt = record {
    earlier = All-from_recursion (λ j. j < 1) (0 ∷ []) (lit< tt, tt);
    given = t8 (tie 8 14) (record { 0 = 2 }) (7, lit< tt, refl);
  }
  worked_passes (suc (suc k)) d lt = absurd (omega (arith, lt))

  pub exchanged_fails : Passes facts (trail 8 14) → ⊥
  exchanged_fails passes =
      let step = passes 0 (record { claim = entry 0 0; rule = T2; from = listed others.ties [] (lit≤ tt) }) (lit< tt) in
      let test : test_t2 facts (entry 8 2) ≡ true = same_t2 facts (entry 8 2) step.given in
      false≢true test
