-- Two lattices of one table are one.
use Rattle.std.proofs.Common.{◌≡◌, ℕ, ◌<◌, Bool, List, length, map, get_or, refl, sym, ap, ◌∙◌, subst, arith}
use Rattle.std.specs.Prelude.{Contains}
use Rattle.std.specs.declared.cmp.Ordering.TheVariants.{Less, Greater}
use Rattle.std.specs.Ordering.{ordering_reverse}
use Rattle.std.proofs.lemmas.List.{length-map, get_or-map}
use Rattle.std.proofs.lemmas.List.Elements.{All-contains}
use Rattle.std.proofs.lemmas.Simd.{map-map}
use Rattle.kaba_base.specs.declared.RowId.{RowId}
use Rattle.kaba_base.specs.declared.ColId.{ColId}
use Rattle.kaba_bits.specs.Sets.{ListsBelow}
use Rattle.fact_model.specs.declared.sets.Concept.{Concept}
use Rattle.fact_model.specs.Concepts.{Pair, pair_of, IsExtent, IsConcept, AreConcepts, AreAllConcepts, IsUpperCover, RowStands, ColumnStands, IsConceptPlaced}
use Rattle.concept_build.specs.Lists.{IsBefore}
use Rattle.concept_build.specs.Laws.{told, OneLattice, NotBoth}
use Rattle.concept_build.proofs.OrderLemmas.{concept_cmp-total}
use Rattle.concept_build.proofs.MeetLemmas.{same_extent}
use Rattle.concept_build.proofs.Ordered.{same_ordered, no_longer, same_listed, same_inside, same_mapped}

-- the order of concepts goes one way
only_before : (x y : Pair) → IsBefore x y → IsBefore y x → ⊥
only_before x y h g =
    let e : Less ≡ Greater = sym h ∙ (concept_cmp-total.antisymm x y ∙ ap ordering_reverse g) in
    cc

module _ (T : List (List Bool)) (w : ℕ) where
  -- a list of all concepts has each that another list has
  has_each : (xs ys : List Pair) → AreConcepts T w xs → AreAllConcepts T w ys → (z : Pair) → Contains xs z → Contains ys z
  has_each xs ys are all z c =
      let p = All-contains (λ (k : Pair). IsConcept T w k.0 k.1) xs z are.each c in
      let h = all.complete z.0 z.1 p in
      let u = get_or ys h.at z in
      let q = all.concepts.each h.at z h.below in
      let intents : u.1 ≡ z.1 = h.is z in
      let extents : u.0 ≡ z.0 = same_extent T w u.0 z.0 z.1 (subst (IsExtent T u.0) intents q.extent) p.extent in
      (h.at, h.below, λ i. (extents i, intents i))

  same_concepts : (xs ys : List Pair) → AreAllConcepts T w xs → AreAllConcepts T w ys → xs ≡ ys
  same_concepts xs ys a b =
      same_ordered IsBefore only_before xs ys a.concepts.ordered b.concepts.ordered (has_each xs ys a.concepts b) (has_each ys xs b.concepts a)

  -- the two sets of a concept and the extents of all fix what is told of it
  same_told : (E : List (List Bool)) (k : ℕ) (x y : Concept) → pair_of x ≡ pair_of y → IsConceptPlaced T w E k x → IsConceptPlaced T w E k y → told x ≡ told y
  same_told E k x y e p q =
      let extents : y.extent ≡ x.extent = ap (λ (d : Pair). d.0) (sym e) in
      let intents : y.intent ≡ x.intent = ap (λ (d : Pair). d.1) (sym e) in
      let above : x.above.items ≡ y.above.items = same_listed (IsUpperCover E k) (length E) x.above.items y.above.items p.above q.above in
      let row_numbers = map (λ (r : RowId). r.0) y.rows.items in
      let column_numbers = map (λ (c : ColId). c.0) y.columns.items in
      let rows : x.rows.items ≡ y.rows.items = same_inside (λ (r : RowId). r.0) (λ n. record { 0 = n }) (λ r. refl) x.rows.items y.rows.items
      (same_listed (RowStands T x.intent) (length T)
      (map (λ r. r.0) x.rows.items) row_numbers p.rows (subst (λ B. ListsBelow (RowStands T B) (length T) row_numbers) intents q.rows)) in
      let columns : x.columns.items ≡ y.columns.items = same_inside (λ (c : ColId). c.0) (λ n. record { 0 = n }) (λ c. refl) x.columns.items
      y.columns.items (same_listed (ColumnStands T x.extent) w
      (map (λ c. c.0) x.columns.items) column_numbers p.columns (subst (λ A. ListsBelow (ColumnStands T A) w column_numbers) extents q.columns)) in
      λ i. (e i, above i, rows i, columns i)

extents_from : (xs : List Concept) → map (λ (p : Pair). p.0) (map pair_of xs) ≡ map (λ (x : Concept). x.extent) xs
extents_from xs = map-map (λ (p : Pair). p.0) pair_of xs

pub one_lattice : OneLattice
one_lattice T w xs ys a b =
    let pairs = same_concepts T w (map pair_of xs) (map pair_of ys) a.all b.all in
    let len : length xs ≡ length ys = sym (length-map xs pair_of) ∙ (ap length pairs ∙ length-map ys pair_of) in
    let E = map (λ (x : Concept). x.extent) xs in
    let extents : map (λ (x : Concept). x.extent) ys ≡ E =
    sym (extents_from ys) ∙ (ap (map (λ (p : Pair). p.0)) (sym pairs) ∙ extents_from xs) in
    same_mapped told xs ys len (λ k d lt.
    let klt : k < length ys = omega (arith, lt, len) in
    let x = get_or xs k d in
    let y = get_or ys k d in
    let same : pair_of x ≡ pair_of y = sym (get_or-map pair_of xs k d (pair_of d) lt) ∙ (ap (λ (l : List Pair). get_or l k (pair_of d)) pairs
    ∙ get_or-map pair_of ys k d (pair_of d) klt) in
    same_told T w E k x y same (a.placed k d lt) (subst (λ F. IsConceptPlaced T w F k y) extents (b.placed k d klt)))

pub not_both : NotBoth
not_both T w bound xs l within m =
    let ys = map pair_of xs in
    let le = no_longer IsBefore only_before m.list ys m.concepts.ordered l.all.concepts.ordered (has_each T w m.list ys m.concepts l.all) in
    omega (arith, le, within, m.more, length-map xs pair_of)
