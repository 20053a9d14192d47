-- Mirror. A table has one lattice.
use Rattle.std.specs.Prelude.{◌≡◌, ℕ, ◌≤◌, Bool, List, map, length}
use Rattle.kaba_base.specs.declared.RowId.{RowId}
use Rattle.kaba_base.specs.declared.ColId.{ColId}
use Rattle.fact_model.specs.declared.sets.Concept.{Concept}
use Rattle.fact_model.specs.Concepts.{Pair, pair_of, AreMoreThan, IsLattice}

-- a concept as plain data: its two sets, the numbers of its upper covers, and the rows and the columns that stand there
abbrev pub ToldConcept : Type 0
ToldConcept = Pair × List ℕ × List RowId × List ColId

-- all that a concept of the program holds
abbrev pub told : Concept → ToldConcept
told x = (pair_of x, x.above.items, x.rows.items, x.columns.items)

-- two lattices of one table have the same concepts in the same order, and each holds the same
abbrev pub OneLattice : Type 0
OneLattice = (T : List (List Bool)) (w : ℕ) (xs ys : List Concept) → IsLattice T w xs → IsLattice T w ys → map told xs ≡ map told ys

-- a table with a lattice of no more concepts than a bound has no more different concepts than that
abbrev pub NotBoth : Type 0
NotBoth = (T : List (List Bool)) (w bound : ℕ) (xs : List Concept) → IsLattice T w xs → length xs ≤ bound → AreMoreThan T w bound → ⊥
