-- The base of the worked table, whole and in order; a bound of four is too small for it.
use Rattle.std.proofs.Common.{◌≡◌, ◌≤◌, Bool, true, false, List, [], ◌∷◌, length, AllPairs, refl, arith}
use Rattle.std.specs.declared.cmp.Ordering.TheVariants.{Less}
use Rattle.std.specs.List.{AllByRecursion}
use Rattle.std.proofs.lemmas.List.Elements.{All-from_recursion}
use Rattle.std.proofs.lemmas.List.Kept.{AllPairs-cons}
use Rattle.stem_base.specs.Base.{Sides, common, IsPseudo, implication_cmp, AreStems, IsStemBase}
use Rattle.stem_base.proofs.Worked.{table, stem_of, table_base}
use Rattle.stem_base.proofs.WorkedLemmas.{Fits, told_each_stem, row_complete}
use Rattle.stem_base.proofs.Uniqueness.{never_both}

abbrev comes_first : Sides → Sides → Type 0
comes_first r s = implication_cmp r s ≡ Less

-- each comes before all later ones
abbrev AreInOrder : List Sides → Type 0
AreInOrder [] = Unit {0}
AreInOrder (r ∷ rs) = AllByRecursion (comes_first r) rs × AreInOrder rs

ordered_by : (rs : List Sides) → AreInOrder rs → AllPairs comes_first rs
ordered_by [] o = λ i j d ij lt. absurd (omega (arith, lt))
ordered_by (r ∷ rs) o = AllPairs-cons comes_first r rs (All-from_recursion (comes_first r) rs o.0) (ordered_by rs o.1)

fits : AllByRecursion (Fits table 5) table_base
fits = ((refl, refl), ((refl, refl), ((refl, refl), ((refl, refl), ((refl, refl), tt)))))

abbrev IsStem : Sides → Type 0
IsStem r = IsPseudo 5 (common table 5) r.0 × (r.1 ≡ common table 5 r.0)

each : AllByRecursion IsStem table_base
each =
    let stem = told_each_stem table 5 table_base fits refl in (
      (stem (stem_of (false ∷ false ∷ false ∷ false ∷ false ∷ [])) (0, omega arith, refl), refl),
      (
        (stem (stem_of (true ∷ true ∷ false ∷ false ∷ false ∷ [])) (1, omega arith, refl), refl),
        (
          (stem (stem_of (false ∷ true ∷ true ∷ false ∷ false ∷ [])) (2, omega arith, refl), refl),
          (
            (stem (stem_of (false ∷ true ∷ false ∷ true ∷ false ∷ [])) (3, omega arith, refl), refl),
            ((stem (stem_of (false ∷ true ∷ false ∷ false ∷ true ∷ [])) (4, omega arith, refl), refl), tt),
          ),
        ),
      ),
    )

stems : AreStems 5 (common table 5) table_base
stems = record {
  each = All-from_recursion IsStem table_base each;
  ordered = ordered_by table_base
      ((refl, (refl, (refl, (refl, tt)))), ((refl, (refl, (refl, tt))), ((refl, (refl, tt)), ((refl, tt), (tt, tt)))));
}

pub row_base : IsStemBase 5 (common table 5) table_base
row_base = record { stems = stems; complete = row_complete }

-- no base of four implications
pub row_refused : (xs : List Sides) → IsStemBase 5 (common table 5) xs → length xs ≤ 4 → ⊥
row_refused xs b le = never_both table 5 4 xs b le (record { list = table_base; stems = stems; more = omega arith })
