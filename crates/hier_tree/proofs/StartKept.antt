-- The start is a hierarchy as the steps towards a tree keep it.
use Rattle.std.proofs.Common.{◌≡◌, ℕ, zero, suc, ◌+◌, ◌<◌, ◌⊎◌, inl, inr, ⊎_elim, not, Bool, true, false, cond, List, [], ◌∷◌, length, map, Option, Some, None, Contains, refl, sym, ap, ◌∙◌, subst, arith}
use Rattle.std.specs.Prelude.{is_some, nat_lt, filter, unwrap_or, IfSome}
use Rattle.std.specs.Option.{option_map_or}
use Rattle.std.proofs.lemmas.Bool.{cases_Bool, cases_lt, false≢true, and_parts, and_from, ltb-true, lt-ltb}
use Rattle.std.proofs.lemmas.Option.{same_Some}
use Rattle.std.proofs.lemmas.List.{get_or-map, get_or_past}
use Rattle.std.proofs.lemmas.List.FromFn.{get_or-map-range_with_len, length-map-range_with_len}
use Rattle.kaba_base.specs.declared.ClassId.{ClassId}
use Rattle.kaba_base.specs.Words.{first_that}
use Rattle.kaba_base.proofs.ListLemmas.{contains_cases, later}
use Rattle.kaba_bits.specs.Sets.{bit, IsSubset, rising, rising_from}
use Rattle.kaba_bits.proofs.SetLemmas.{bit-below}
use Rattle.kaba_bits.proofs.FirstLemmas.{cases_Option}
use Rattle.kaba_order.specs.Orders.{is_le, is_live}
use Rattle.fact_model.specs.Items.{column_at, column_kind, column_class, column_slot, row_class}
use Rattle.fact_model.specs.Classes.{IsBelow, same, below, is_interface}
use Rattle.fact_model.specs.Closures.{IsPlainClass}
use Rattle.fact_model.specs.Concepts.{Pair, pair_of, IsConcept, AreAllConcepts}
use Rattle.fact_model.specs.InRange.{IsClass}
use Rattle.fact_model.specs.InOrder.{name_of}
use Rattle.fact_model.specs.declared.facts.Facts.{Facts}
use Rattle.fact_model.specs.declared.facts.RowInfo.{RowInfo}
use Rattle.fact_model.specs.declared.facts.ColKind.TheVariants.{Is}
use Rattle.fact_model.specs.declared.sets.PointsTo.{PointsTo}
use Rattle.fact_model.specs.declared.sets.Table.{Table}
use Rattle.fact_model.specs.declared.sets.Lattice.{Lattice}
use Rattle.fact_model.proofs.ChainLemmas.{chain}
use Rattle.fact_model.proofs.ClassLemmas.{below-then}
use Rattle.hier_model.specs.Hierarchies.{Hierarchy, node, origin_of, member_name, IsHierarchyOf}
use Rattle.hier_model.specs.Names.{is_shared}
use Rattle.hier_model.specs.Start.{is_filled, is_subset, concept_at, column_place, is_below_all, lowest, owners, start_origin, start_from}
use Rattle.hier_model.proofs.LowestLemmas.{list_all-at}
use Rattle.hier_model.proofs.SetTests.{filled-some, subset-sound, subset-complete}
use Rattle.hier_model.proofs.StartLemmas.{rows_with-bit, ext-length, int-length, node-le, nodes-count, ColumnStands, column_stands}
use Rattle.hier_model.proofs.BeginLemmas.{keeps_table, start_fits}
use Rattle.hier_laws.specs.Shapes.{Given}
use Rattle.hier_laws.specs.Starts.{IsClosed, IsStart}
use Rattle.hier_laws.proofs.Begins.{named_apart}
use Rattle.hier_laws.specs.Laws.{AreAnalysed}
use Rattle.hier_laws.proofs.GivenLemmas as facts
use Rattle.hier_laws.proofs.GivenLemmas.{given, roles, is_closed, in_order}
use Rattle.hier_laws.proofs.ShapeLemmas.{shape, placed, start_shape}
use Rattle.hier_laws.proofs.NamedLemmas.{new_name, fields_named, method_name}
use Rattle.hier_laws.proofs.StartMeets.{edit_none, slot_of_method as field_not}
use Rattle.hier_tree.specs.Origins.{AreStartOrigins, AreNamesApart}
use Rattle.hier_tree.specs.Kept.{origin_at, field_at, slot_at, IsKept, HasNoInterface}
use Rattle.hier_tree.proofs.OriginLemmas.{start_keeps}
use Rattle.hier_tree.proofs.KeptLemmas.{orders}

-- the rising list of a set has exactly its numbers
rising_has : (k : ℕ) (xs : List Bool) (c y : ℕ) → bit xs c ≡ true → y ≡ k + c → Contains (rising_from k xs) y
rising_has k [] c y h e = absurd (false≢true h)
rising_has k (true ∷ xs) zero y h e = (0, omega arith, omega (arith, e))
rising_has k (true ∷ xs) (suc c) y h e = later k (rising_from (k + 1) xs) y (rising_has (k + 1) xs c y h (omega (arith, e)))
rising_has k (false ∷ xs) zero y h e = absurd (false≢true h)
rising_has k (false ∷ xs) (suc c) y h e = rising_has (k + 1) xs c y h (omega (arith, e))

rising_of : (k : ℕ) (xs : List Bool) (y : ℕ) → Contains (rising_from k xs) y → (c : ℕ) × (bit xs c ≡ true) × (y ≡ k + c)
rising_of k [] y h = absurd (omega (arith, h.1))
rising_of k (true ∷ xs) y (zero, lt, e) = (0, refl, omega (arith, e))
rising_of k (true ∷ xs) y (suc i, lt, e) = let r = rising_of (k + 1) xs y (i, omega (arith, lt), e) in (suc r.0, r.1, omega (arith, r.2))
rising_of k (false ∷ xs) y h = let r = rising_of (k + 1) xs y h in (suc r.0, r.1, omega (arith, r.2))

filter_all : {X : Type 0} (p : X → Bool) → ((x : X) → p x ≡ true) → (xs : List X) → filter p xs ≡ xs
filter_all p h [] = refl
filter_all p h (x ∷ xs) = ap (λ b. cond b (x ∷ filter p xs) (filter p xs)) (h x) ∙ ap (λ r. x ∷ r) (filter_all p h xs)

map_has : {X : Type 0} (f : ℕ → X) (cs : List ℕ) (c : ℕ) → Contains cs c → Contains (map f cs) (f c)
map_has f [] c h = absurd (omega (arith, h.1))
map_has f (y ∷ ys) c (zero, lt, e) = (0, omega arith, ap f e)
map_has f (y ∷ ys) c (suc i, lt, e) = later (f y) (map f ys) (f c) (map_has f ys c (i, omega (arith, lt), e))

map_of : {X : Type 0} (f : ℕ → X) (cs : List ℕ) (x : X) → Contains (map f cs) x → (c : ℕ) × Contains cs c × (f c ≡ x)
map_of f [] x h = absurd (omega (arith, h.1))
map_of f (y ∷ ys) x (zero, lt, e) = (y, (0, omega arith, refl), e)
map_of f (y ∷ ys) x (suc i, lt, e) = let r = map_of f ys x (i, omega (arith, lt), e) in (r.0, later y ys r.0 r.1, r.2)

-- the first that passes a test, and that there is one
first_says : (p : ClassId → Bool) (ks : List ClassId) (k : ClassId) → first_that p ks ≡ Some k → (p k ≡ true) × Contains ks k
first_says p [] k e = absurd (cc e)
first_says p (x ∷ xs) k e =
    ⊎_elim
    (λ yes. let here : x ≡ k = same_Some x k (sym (ap (λ b. cond b (Some x) (first_that p xs)) yes) ∙ e) in (ap p (sym here) ∙ yes, (0, omega arith, here)))
    (λ no. let r = first_says p xs k (sym (ap (λ b. cond b (Some x) (first_that p xs)) no) ∙ e) in (r.0, later x xs k r.1))
    (cases_Bool (p x))

first_none : (p : ClassId → Bool) (ks : List ClassId) (k : ClassId) → first_that p ks ≡ None → Contains ks k → p k ≡ true → ⊥
first_none p [] k e h t = omega (arith, h.1)
first_none p (x ∷ xs) k e h t =
    ⊎_elim
    (λ yes. cc (sym (ap (λ b. cond b (Some x) (first_that p xs)) yes) ∙ e))
    (λ no. ⊎_elim
    (λ here. false≢true (sym no ∙ ap p here ∙ t))
    (λ rest. first_none p xs k (sym (ap (λ b. cond b (Some x) (first_that p xs)) no) ∙ e) rest t)
    (contains_cases x xs k h))
    (cases_Bool (p x))

below_all : (F : Facts) (k : ClassId) (ks : List ClassId) → ((x : ClassId) → Contains ks x → below F k.0 x.0 ≡ true) → is_below_all F ks k ≡ true
below_all F k [] h = refl
below_all F k (x ∷ ks) h = and_from (below F k.0 x.0) (is_below_all F ks k) (h x (0, omega arith, refl)) (below_all F k ks (λ y c. h y (later x ks y c)))

module _ (F : Facts) (pt : PointsTo) (t : Table) (l : Lattice) (A : AreAnalysed F pt t l) (W : HasNoInterface F) where
  abbrev ps : List Pair
  ps = map pair_of l.concepts.items

  abbrev H : Hierarchy
  H = start_from F t l

  abbrev rows : List (List Bool)
  rows = t.rows.items

  abbrev G : Given
  G = given F pt t

  abbrev C : ℕ
  C = length F.columns.items

  abbrev ext : ℕ → List Bool
  ext n = (concept_at ps n).0

  abbrev int : ℕ → List Bool
  int n = (concept_at ps n).1

  all : AreAllConcepts rows t.width ps
  all = A.lattice.all

  closes : IsClosed G (roles F pt t)
  closes = is_closed F pt t A.range A.order A.sets A.table

  shown : IsStart G (shape H)
  shown = start_shape F pt t l A.table A.lattice

  fits : IsHierarchyOf F H
  fits = start_fits F A.range A.order rows (keeps_table F t A.table) ps (subst (λ w. AreAllConcepts rows w ps) A.table.sized.columns all)

  live_below : (n : ℕ) → is_live H.order n ≡ true → n < length ps
  live_below n h = omega (arith, bit-below H.order.live n h, nodes-count rows t.width A.table.sized.widths ps all)

  filled : (n : ℕ) → n < length ps → is_live H.order n ≡ true → is_filled (ext n) ≡ true
  filled n lt h = sym (get_or-map (λ (k : Pair). is_filled k.0) ps n ([], []) false lt) ∙ h

  concept : (n : ℕ) → n < length ps → IsConcept rows t.width (ext n) (int n)
  concept n lt = all.concepts.each n ([], []) lt

  origin_is : (n : ℕ) → n < length ps → origin_of H n ≡ start_origin F (int n)
  origin_is n lt = get_or-map (λ (k : Pair). start_origin F k.1) ps n ([], []) None lt

  -- a column that stands somewhere stands at the concept of the rows that have it
  stands : (c at : ℕ) → (shape H).column c ≡ Some at → (c < C) × ColumnStands rows t.width A.table.sized.widths ps all c at
  stands c at h =
      let e = placed H c at h in
      ⊎_elim
      (λ lt. (
        lt,
        column_stands rows t.width A.table.sized.widths ps all c (node at)
            (sym (get_or-map-range_with_len (column_place rows ps) 0 C c c None lt (omega arith)) ∙ e),
      ))
      (λ past. absurd (cc (sym (get_or_past H.columns c None (omega (arith, past, length-map-range_with_len (column_place rows ps) 0 C))) ∙ e)))
      (cases_lt c C)

  intent_has : (n c at : ℕ) → n < length ps → (shape H).column c ≡ Some at → is_le H.order n at ≡ true → bit (int n) c ≡ true
  intent_has n c at ln h le =
      let st = stands c at h in
      let above = and_parts (is_filled (ext n)) (is_subset (ext n) (ext at)) (sym (node-le rows t.width A.table.sized.widths ps all n at ln st.1.below) ∙ le) in
      let cw : c < t.width = omega (arith, st.0, A.table.sized.columns) in
      ((concept n ln).intent.columns c cw).1 (λ r rt q. sym (rows_with-bit rows c r) ∙ st.1.within r (subset-sound (ext n) (ext at) above.1 r q))

  intent_place : (n c : ℕ) → n < length ps → is_filled (ext n) ≡ true → bit (int n) c ≡ true → (at : ℕ) × ((shape H).column c ≡ Some at)
      × (is_le H.order n at ≡ true)
  intent_place n c ln f h =
      let len = ext-length rows t.width A.table.sized.widths ps all n ln in
      let cw : c < t.width = omega (arith, bit-below (int n) c h, int-length rows t.width A.table.sized.widths ps all n ln) in
      let each = ((concept n ln).intent.columns c cw).0 h in
      let r = filled-some (ext n) f in
      let there = shown.there r.0 c (each r.0 (omega (arith, bit-below (ext n) r.0 r.1, len)) r.1) in
      let st = stands c there.0 there.1 in
      let within : IsSubset (ext n) (ext there.0) = λ j q. st.1.holds j (rows_with-bit rows c j ∙ each j (omega (arith, bit-below (ext n) j q, len)) q) in (
        there.0,
        there.1,
        node-le rows t.width A.table.sized.widths ps all n there.0 ln st.1.below
            ∙ and_from (is_filled (ext n)) (is_subset (ext n) (ext there.0)) f (subset-complete (ext n) (ext there.0) within),
      )

  abbrev class_at : ℕ → ClassId
  class_at c = (column_at F c).class

  owners_are : (n : ℕ) → owners F (int n) ≡ map class_at (rising (int n))
  owners_are n = filter_all (λ (k : ClassId). not (is_interface F k.0)) (λ k. ap not (W.classes k.0)) (map class_at (rising (int n)))

  owner_has : (n c : ℕ) → bit (int n) c ≡ true → Contains (owners F (int n)) (class_at c)
  owner_has n c h = subst (λ ks. Contains ks (class_at c)) (sym (owners_are n)) (map_has class_at (rising (int n)) c (rising_has 0 (int n) c c h (omega arith)))

  owner_of : (n : ℕ) (k : ClassId) → Contains (owners F (int n)) k → (c : ℕ) × (bit (int n) c ≡ true) × (class_at c ≡ k)
  owner_of n k h =
      let m = map_of class_at (rising (int n)) k (subst (λ ks. Contains ks k) (owners_are n) h) in
      let r = rising_of 0 (int n) m.0 m.1 in
      let e : m.0 ≡ r.0 = omega (arith, r.2) in
      (m.0, subst (λ x. bit (int n) x ≡ true) (sym e) r.1, m.2)

  -- of classes at or above one there is a lowest
  has_lowest : (a : ℕ) (ks : List ClassId) (x : ClassId) → ((k : ClassId) → Contains (x ∷ ks) k → IsPlainClass F k.0 × IsBelow F a k.0)
      → (m : ClassId) × Contains (x ∷ ks) m × ((k : ClassId) → Contains (x ∷ ks) k → IsBelow F m.0 k.0)
  has_lowest a [] x h = (
    x,
    (0, omega arith, refl),
    λ k c. ⊎_elim (λ here. subst (λ (z : ClassId). IsBelow F x.0 z.0) here same)
        (λ rest. absurd (omega (arith, rest.1))) (contains_cases x [] k c),
  )
  has_lowest a (y ∷ ys) x h =
      let r = has_lowest a ys y (λ k c. h k (later x (y ∷ ys) k c)) in
      let one = h x (0, omega arith, refl) in
      let two = h r.0 (later x (y ∷ ys) r.0 r.1) in
      ⊎_elim
      (λ down. (
        x,
        (0, omega arith, refl),
        λ k c. ⊎_elim (λ here. subst (λ (z : ClassId). IsBelow F x.0 z.0) here same)
            (λ rest. below-then F down (r.2 k rest)) (contains_cases x (y ∷ ys) k c),
      ))
      (λ up. (
        r.0,
        later x (y ∷ ys) r.0 r.1,
        λ k c. ⊎_elim (λ here. subst (λ (z : ClassId). IsBelow F r.0.0 z.0) here up) (λ rest. r.2 k rest)
            (contains_cases x (y ∷ ys) k c),
      ))
      (chain F A.order a x.0 r.0.0 one.0 two.0 one.1 two.1)

  column_class_below : (c : ℕ) → c < C → column_class F c < length F.classes.items
  column_class_below c lt = A.range.columns c (record { kind = Is; class = record { 0 = 0 }; slot = None; name = []; label = [] }) lt

  -- the origin where there is a lowest class, and where there is none
  origin_low : (n : ℕ) → n < length ps → (k : ClassId) → lowest F (owners F (int n)) ≡ Some k → origin_at H n ≡ k.0
  origin_low n lt k e = ap (λ o. option_map_or (λ (j : ClassId). j.0) o 0) (origin_is n lt) ∙ ap (λ (o : Option ClassId). (unwrap_or o (record { 0 = 0 })).0) e

  origin_top : (n : ℕ) → n < length ps → lowest F (owners F (int n)) ≡ None → origin_at H n ≡ 0
  origin_top n lt e = ap (λ o. option_map_or (λ (j : ClassId). j.0) o 0) (origin_is n lt) ∙ ap (λ (o : Option ClassId). (unwrap_or o (record { 0 = 0 })).0) e

  no_lowest : (n c : ℕ) → n < length ps → is_filled (ext n) ≡ true → bit (int n) c ≡ true → lowest F (owners F (int n)) ≡ None → ⊥
  no_lowest n c ln f h none = at (owners F (int n)) refl (owner_has n c h)
    where
      at : (ks : List ClassId) → owners F (int n) ≡ ks → Contains ks (class_at c) → ⊥
      at [] e own = omega (arith, own.1)
      at (x ∷ ks) e own =
          let len = ext-length rows t.width A.table.sized.widths ps all n ln in
          let r = filled-some (ext n) f in
          let above : (k : ClassId) → Contains (x ∷ ks) k → IsPlainClass F k.0 × IsBelow F (row_class F r.0) k.0 = λ k has.
          let c2 = owner_of n k (subst (λ (z : List ClassId). Contains z k) (sym e) has) in
          let cw : c2.0 < t.width = omega (arith, bit-below (int n) c2.0 c2.1, int-length rows t.width A.table.sized.widths ps all n ln) in
          let entry = ((concept n ln).intent.columns c2.0 cw).0 c2.1 r.0 (omega (arith, bit-below (ext n) r.0 r.1, len)) r.1 in
          let up = facts.is_le F pt t A.range A.order A.sets A.table (row_class F r.0) (column_class F c2.0) (closes.above r.0 c2.0 entry) in (
            record {
              below = subst (λ (z : ClassId). z.0 < length F.classes.items) c2.2
                  (column_class_below c2.0 (omega (arith, cw, A.table.sized.columns)));
              kind = W.classes k.0;
            },
            subst (λ (z : ClassId). IsBelow F (row_class F r.0) z.0) c2.2 up,
          ) in
          let m = has_lowest (row_class F r.0) ks x above in
          let test = below_all F m.0 (x ∷ ks) (λ z has. facts.le F pt t A.range A.order A.sets A.table m.0.0 z.0 (m.2 z has)) in
          first_none (is_below_all F (x ∷ ks)) (x ∷ ks) m.0 (sym (ap (lowest F) e) ∙ none) m.1 test

  low : (n c at : ℕ) → (shape H).column c ≡ Some at → is_le H.order n at ≡ true → below F (origin_at H n) (column_class F c) ≡ true
  low n c at h le =
      let live = fits.sized.order.lower_lives n at le in
      let ln = live_below n live in
      let has = intent_has n c at ln h le in
      ⊎_elim
      (λ none. absurd (no_lowest n c ln (filled n ln live) has none))
      (λ k.
      let says = first_says (is_below_all F (owners F (int n))) (owners F (int n)) k.0 k.1 in
      subst (λ x. below F x (column_class F c) ≡ true) (sym (origin_low n ln k.0 k.1)) (list_all-at (λ (z : ClassId). below F k.0.0 z.0)
      (owners F (int n)) (class_at c) (owner_has n c has) says.0))
      (cases_Option (lowest F (owners F (int n))))

  abbrev is_class : ℕ → Bool
  is_class a = nat_lt a (length F.classes.items)

  one : (n : ℕ) → is_le H.order n n ≡ true
      → ((c : ℕ) × (at : ℕ) × ((shape H).column c ≡ Some at) × (is_le H.order n at ≡ true) × (column_class F c ≡ origin_at H n))
      ⊎ ((a : ℕ) → is_class a ≡ true → below F a (origin_at H n) ≡ true)
  one n le =
      let live = fits.sized.order.lower_lives n n le in
      let ln = live_below n live in
      ⊎_elim
      (λ none. inr (λ a h.
      let top = facts.le F pt t A.range A.order A.sets A.table a 0 (A.order.classes.top a (ltb-true a (length F.classes.items) h)) in
      subst (λ x. below F a x ≡ true) (sym (origin_top n ln none)) top))
      (λ k.
      let says = first_says (is_below_all F (owners F (int n))) (owners F (int n)) k.0 k.1 in
      let c = owner_of n k.0 says.1 in
      let at = intent_place n c.0 ln (filled n ln live) c.1 in
      inl (c.0, at.0, at.1, at.2, ap (λ (z : ClassId). z.0) c.2 ∙ sym (origin_low n ln k.0 k.1)))
      (cases_Option (lowest F (owners F (int n))))

  there : (n : ℕ) → is_live H.order n ≡ true → is_some (origin_of H n) ≡ true
  there n h = ap is_some (origin_is n (live_below n h))

  node_class : (n m : ℕ) → is_le H.order n m ≡ true → is_class (origin_at H n) ≡ true
  node_class n m le =
      let live = fits.sized.order.lower_lives n m le in
      let ln = live_below n live in
      let k : ClassId = unwrap_or (lowest F (owners F (int n))) (record { 0 = 0 }) in
      let class = subst (λ o. IfSome o (IsClass F)) (origin_is n ln) (fits.origins n live) in
      lt-ltb (origin_at H n) (length F.classes.items) (subst (λ x. x < length F.classes.items)
      (sym (ap (λ o. option_map_or (λ (j : ClassId). j.0) o 0) (origin_is n ln))) class)

  start_origins : AreStartOrigins G (shape H) is_class (origin_at H)
  start_origins = record {
    lowest = low;
    one = one;
    nodes = node_class;
    columns = λ c n h. lt-ltb (column_class F c) (length F.classes.items) (column_class_below c (stands c n h).0);
    rows = λ r h.
        let info : RowInfo = record { label = []; class = record { 0 = 0 }; dim = 0; site = None; this_of = None } in
        lt-ltb (row_class F r) (length F.classes.items) (A.range.rows r info (ltb-true r (length F.rows.items) h)).0;
  }

  names : AreNamesApart G (shape H) (field_at F) (slot_at F) (member_name H)
  names = record {
    fields = λ a c d n m fc fd cc cd ac ad e.
        named_apart G (field_at F) (is_shared F) (name_of F) (new_name F A.range A.order) (fields_named F A.range A.order pt t) a c d fc fd ac ad e;
    slots = λ a c d n m x y sc sd cc cd ac ad e.
        let p = field_not (column_kind F c) (column_slot F c) x sc in
        let q = field_not (column_kind F d) (column_slot F d) y sd in
        A.order.members.slots a c d x y p.1 q.1
        (facts.is_le F pt t A.range A.order A.sets A.table a (column_class F c) ac) (facts.is_le F pt t A.range A.order A.sets A.table a (column_class F d) ad)
        (sym (method_name F A.range A.order c (stands c n cc).0 p.0) ∙ e ∙ method_name F A.range A.order d (stands d m cd).0 q.0);
  }

  pub start_kept : IsKept F pt t H
  start_kept = record {
    fits = fits;
    table = refl;
    there = there;
    origins = start_keeps G (roles F pt t) closes (in_order F pt t A.range A.order A.sets A.table) (orders F pt t A.range A.order A.sets A.table)
        (shape H) shown is_class (origin_at H) start_origins;
    names = names;
    meets = edit_none F pt t l A;
  }
