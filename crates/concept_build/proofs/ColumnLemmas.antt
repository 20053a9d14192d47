-- For each column the set of the rows that have it.
use Rattle.std.proofs.Common.{◌≡◌, ℕ, ◌<◌, ◌≤◌, ◌↔◌, Bool, true, false, List, [], length, get_or, sym, ◌∙◌, arith, All}
use Rattle.std.proofs.lemmas.List.Elements.{All-contains, Contains-get_or}
use Rattle.std.proofs.lemmas.List.{get_or-map, length-map}
use Rattle.kaba_bits.specs.Sets.{bit, row, ListsBelow}
use Rattle.kaba_bits.proofs.SetLemmas.{same_bits, bit-below}
use Rattle.fact_model.specs.Concepts.{IsExtent}
use Rattle.concept_build.specs.declared.columns.Columns.{Columns}
use Rattle.concept_build.specs.Tables.{AreColumnSets, HaveAllColumns, column}

-- the set of a column is the column
pub set-column : (T : List (List Bool)) (w : ℕ) (cs : Columns) → AreColumnSets T w cs → (c : ℕ) → c < w → row cs.sets.items c ≡ column T c
set-column T w cs are c lt =
    let len = length-map T (λ r. bit r c) in
    let wide : length (row cs.sets.items c) ≡ length T = are.widths c (omega (arith, lt, are.len)) in
    same_bits (row cs.sets.items c) (column T c) (wide ∙ sym len) (λ r rlt.
    let below : r < length T = omega (arith, rlt, wide) in
    are.bits c r ∙ sym (get_or-map (λ s. bit s c) T r [] false below))

-- the places that have all columns of an intent are its extent
pub IsExtent-all : (T : List (List Bool)) (w : ℕ) (cs : Columns) (A B : List Bool) → AreColumnSets T w cs → HaveAllColumns cs A B → IsExtent T A B
IsExtent-all T w cs A B are have = record {
  len = have.len ∙ are.all.len;
  rows = λ r lt. (
    λ a i b. sym (are.bits i r) ∙ ((have.places r).0 a).1 i b,
    λ s. (have.places r).1 (are.all.bits r lt, λ i b. are.bits i r ∙ s i b),
  );
}

pub ListsBelow-below : (P : ℕ → Type 0) (n m : ℕ) (xs : List ℕ) → n ≤ m → ListsBelow P n xs → All (λ c. c < m) xs
ListsBelow-below P n m xs le l k d lt =
    let h = (l.each (get_or xs k d)).0 (Contains-get_or xs k d lt) in omega (arith, h.0, le)

-- the places that are in each set of a list have all columns of it
pub HaveAll-listed : (cs : Columns) (A B : List Bool) (xs : List ℕ) → length A ≡ length cs.all
    → ((p : ℕ) → ((bit A p ≡ true) ↔ ((bit cs.all p ≡ true) × All (λ c. bit (row cs.sets.items c) p ≡ true) xs)))
    → ListsBelow (λ c. bit B c ≡ true) (length B) xs → HaveAllColumns cs A B
HaveAll-listed cs A B xs len bits l = record {
  len = len;
  places = λ p. (
    λ a. let h = (bits p).0 a in (h.0, λ c b. All-contains (λ i. bit (row cs.sets.items i) p ≡ true) xs c h.1 ((l.each c).1 (bit-below B c b, b))),
    λ h. (bits p).1 (h.0, λ k d lt. h.1 (get_or xs k d) ((l.each (get_or xs k d)).0 (Contains-get_or xs k d lt)).1),
  );
}
