-- Mirror. Places in a list of rows: those in the sets of some columns, and those whose rows are passed over.
use Rattle.std.specs.Prelude.{◌≡◌, ℕ, ◌↔◌, Bool, true, false, List, slice_index, All}
use Rattle.kaba_bits.specs.Sets.{bit, row}
use Rattle.concept_build.specs.declared.columns.Columns.{Columns}
use Rattle.concept_build.specs.Tables.{IsNoMore}

-- exactly the places that are in the sets of all columns of a list
abbrev pub AreInAll : Columns → List ℕ → List Bool → Type 0
AreInAll cs xs A = (p : ℕ) → ((bit A p ≡ true) ↔ ((bit cs.all p ≡ true) × All (λ c. bit (row cs.sets.items c) p ≡ true) xs))

-- the row at each place that is no longer left has no more of B than the row R
abbrev pub ArePassed : List (List Bool) → List ℕ → List Bool → List Bool → List Bool → List Bool → Type 0
ArePassed T rows B R old new = (p : ℕ) → bit old p ≡ true → bit new p ≡ false → IsNoMore B (row T (slice_index rows p)) R
