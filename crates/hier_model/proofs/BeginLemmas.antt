-- What the code of the start makes is the start, and that is a hierarchy of the facts.
use Rattle.std.proofs.Common.{◌≡◌, ℕ, zero, suc, ◌+◌, ◌<◌, ◌==◌, ◌&&◌, not, Bool, true, false, cond, List, [], ◌∷◌, ◌++◌, length, map, get_or, Option, Some, None, Contains, refl, sym, ap, ◌∙◌, subst, arith, ⊎_elim, eq-eqb, eqb-true, All}
use Rattle.std.specs.Prelude.{IfSome, unwrap_or, slice_get, filter}
use Rattle.std.specs.Option.{option_map_or}
use Rattle.std.specs.List.{list_any, range_with_len}
use Rattle.std.proofs.lemmas.Bool.{cases_Bool, cases_lt, and_parts, and_from, or_cases, or_left, or_right, false≢true}
use Rattle.std.proofs.lemmas.Option.{slice_get_cases}
use Rattle.std.proofs.Math.Seq.{drop-cons}
use Rattle.std.proofs.Common.{drop, add-one, append_assoc}
use Rattle.std.proofs.lemmas.List.Elements.{All-cons}
use Rattle.fact_model.specs.Classes.{is_interface}
use Rattle.fact_model.specs.Items.{row_this}
use Rattle.fact_model.proofs.RangeLemmas.{this-below}
use Rattle.std.proofs.lemmas.List.{get_or-map, get_or_past, length-map, ext_get_or, get_or_push, get_or_append_left, length_push}
use Rattle.std.proofs.lemmas.List.FromFn.{get_or-map-range_with_len, length-map-range_with_len}
use Rattle.kaba_base.specs.declared.NodeId.{NodeId}
use Rattle.kaba_base.specs.declared.ColId.{ColId}
use Rattle.kaba_base.specs.declared.RowId.{RowId}
use Rattle.kaba_base.specs.declared.ClassId.{ClassId}
use Rattle.kaba_base.proofs.TestLemmas.{same_truth}
use Rattle.kaba_bits.specs.Sets.{bit, row, HasWidth, rising, first_below, when}
use Rattle.kaba_bits.proofs.SetLemmas.{same_bits, bit-below}
use Rattle.kaba_bits.proofs.FirstLemmas.{first_below_same, cases_Option}
use Rattle.kaba_order.specs.Orders.{Ordered, is_live, IsPartialOrder}
use Rattle.fact_model.specs.Concepts.{Pair, pair_of, AreAllConcepts, IsConceptPlaced, RowStands, ColumnStands, IsLattice}
use Rattle.fact_model.specs.Entries.{IsTable}
use Rattle.fact_model.specs.Items.{column_at, column_kind, column_slot}
use Rattle.fact_model.specs.InRange.{InRange, IsClass, IsCol}
use Rattle.fact_model.specs.InOrder.{InOrder, name_of}
use Rattle.fact_model.specs.declared.facts.Facts.{Facts}
use Rattle.fact_model.specs.declared.facts.RowInfo.{RowInfo}
use Rattle.fact_model.specs.declared.facts.ColumnInfo.{ColumnInfo}
use Rattle.fact_model.specs.declared.facts.ColKind.{ColKind}
use Rattle.fact_model.specs.declared.facts.ColKind.TheVariants.{Fld, Dcl, Def, Is}
use Rattle.fact_model.specs.declared.sets.Concept.{Concept}
use Rattle.fact_model.specs.declared.sets.Table.{Table}
use Rattle.hier_model.specs.Hierarchies.{hierarchy_of, node, is_method, KeepsTable, IsHierarchyOf}
use Rattle.hier_model.specs.Names.{is_field, named_member, member_names, named_type, type_names}
use Rattle.hier_model.specs.Start.{is_filled, is_subset, is_same_set, order_of, concept_at, rows_with, column_place, row_place, is_below_all, lowest, owners, start_origin, origins_of, start_of}
use Rattle.hier_model.specs.Listed.{extent_of, intent_of, is_above_concept, lists_column, lists_row, listed_column, row_node}
use Rattle.hier_model.proofs.FitLemmas.{lowest_member}
use Rattle.hier_model.proofs.Pushed.{each_given}
use Rattle.hier_model.proofs.SetTests.{filled-some, filled-has, same_set-sound, same_set-complete}
use Rattle.hier_model.proofs.StartLemmas.{rows_with-bit, int-length, ext-length, order_partial, nodes-count, column_lives, row_lives, this_stands}

-- an order of these rows is that of the concepts
pub order_built : (xs : List Pair) (live : List Bool) (le : List (List Bool)) → length live ≡ length xs
    → ((k : ℕ) → k < length xs → bit live k ≡ is_filled (concept_at xs k).0) → length le ≡ length xs
    → ((a : ℕ) → a < length xs → length (row le a) ≡ length xs) → ((a b : ℕ) → a < length xs → b < length xs
    → bit (row le a) b ≡ (is_filled (concept_at xs a).0 && is_subset (concept_at xs a).0 (concept_at xs b).0))
    → (let o : Ordered = record { live = live; le = le } in o) ≡ order_of xs
order_built xs live le ll lives n widths les =
    let f = λ (k : Pair). is_filled k.0 in
    let g = λ (k : Pair). map (λ (l : Pair). is_filled k.0 && is_subset k.0 l.0) xs in
    let same_live : live ≡ map f xs = same_bits live (map f xs) (ll ∙ sym (length-map xs f)) (λ i lt. lives i (omega (arith, lt, ll))
    ∙ sym (get_or-map f xs i ([], []) false (omega (arith, lt, ll)))) in
    let same_le : le ≡ map g xs =
    ext_get_or [] le (map g xs) (n ∙ sym (length-map xs g))
    (λ a lt.
    let la : a < length xs = omega (arith, lt, n) in
    let h = λ (l : Pair). is_filled (concept_at xs a).0 && is_subset (concept_at xs a).0 l.0 in
    let rowed : row (map g xs) a ≡ map h xs = get_or-map g xs a ([], []) [] la in
    same_bits (row le a) (map h xs) (widths a la ∙ sym (length-map xs h))
    (λ b bt. let lb : b < length xs = omega (arith, bt, widths a la) in les a b la lb ∙ sym (get_or-map h xs b ([], []) false lb))
    ∙ sym rowed) in
    ap (λ (l : List Bool). let o : Ordered = record { live = l; le = le } in o) same_live
    ∙ ap (λ (l : List (List Bool)). let o : Ordered = record { live = map f xs; le = l } in o) same_le

-- the same, by the concepts
pub order_from : (cs : List Concept) (live : List Bool) (le : List (List Bool)) → length live ≡ length cs
    → ((k : ℕ) → k < length cs → bit live k ≡ is_filled (extent_of cs k)) → length le ≡ length cs
    → ((a : ℕ) → a < length cs → length (row le a) ≡ length cs) → ((a b : ℕ) → a < length cs → b < length cs → bit (row le a) b ≡ is_above_concept cs a b)
    → (let o : Ordered = record { live = live; le = le } in o) ≡ order_of (map pair_of cs)
order_from cs live le ll lives n widths les =
    let e = length-map cs pair_of in
    order_built (map pair_of cs) live le (ll ∙ sym e) (λ k lt. lives k (omega (arith, lt, e))) (n ∙ sym e) (λ a lt. widths a (omega (arith, lt, e))
    ∙ sym e) (λ a b la lb. les a b (omega (arith, la, e)) (omega (arith, lb, e)))

-- the classes of a list of columns, one column on
module _ (p : ClassId → Bool) (g : ℕ → ClassId) (N : List ℕ) (i : ℕ) (lt : i < length N) where
  front : drop i N ≡ get_or N i 0 ∷ drop (i + 1) N
  front = drop-cons N i 0 lt ∙ ap (λ k. get_or N i 0 ∷ drop k N) (sym (add-one i))

  pub owned_then : (old new : List ClassId) → p (g (get_or N i 0)) ≡ true → new ≡ old ++ g (get_or N i 0) ∷ []
      → new ++ filter p (map g (drop (i + 1) N)) ≡ old ++ filter p (map g (drop i N))
  owned_then old new t e =
      ap (λ l. l ++ filter p (map g (drop (i + 1) N))) e ∙ append_assoc old (g (get_or N i 0) ∷ []) (filter p (map g (drop (i + 1) N)))
      ∙ ap (λ l. old ++ l) (sym (ap (λ l. filter p (map g l)) front
      ∙ ap (λ b. cond b (g (get_or N i 0) ∷ filter p (map g (drop (i + 1) N))) (filter p (map g (drop (i + 1) N)))) t))

  pub owned_else : (old new : List ClassId) → p (g (get_or N i 0)) ≡ false → new ≡ old → new ++ filter p (map g (drop (i + 1) N))
      ≡ old ++ filter p (map g (drop i N))
  owned_else old new f e =
      ap (λ l. l ++ filter p (map g (drop (i + 1) N))) e
      ∙ ap (λ l. old ++ l) (sym (ap (λ l. filter p (map g l)) front
      ∙ ap (λ b. cond b (g (get_or N i 0) ∷ filter p (map g (drop (i + 1) N))) (filter p (map g (drop (i + 1) N)))) f))

-- a number among those of a list
any_contains : {A : Type 0} (f : A → ℕ) (xs : List A) (c : ℕ) → list_any (λ x. f x == c) xs ≡ true → Contains (map f xs) c
any_contains f [] c h = absurd (false≢true h)
any_contains f (x ∷ xs) c h =
    ⊎_elim
    (λ here. (0, omega arith, eqb-true (f x) c here))
    (λ more. let r = any_contains f xs c more in (suc r.0, omega (arith, r.1), r.2))
    (or_cases (f x == c) (list_any (λ y. f y == c) xs) h)

contains_any : {A : Type 0} (f : A → ℕ) (xs : List A) (c : ℕ) → Contains (map f xs) c → list_any (λ x. f x == c) xs ≡ true
contains_any f [] c h = absurd (omega (arith, h.1))
contains_any f (x ∷ xs) c (zero, lt, e) = or_left (f x == c) (list_any (λ y. f y == c) xs) (eq-eqb (f x) c e)
contains_any f (x ∷ xs) c (suc i, lt, e) = or_right (f x == c) (list_any (λ y. f y == c) xs) (contains_any f xs c (i, omega (arith, lt), e))

-- the concept at a number
concept-is : (cs : List Concept) (k : ℕ) → k < length cs → (x : Concept) × (slice_get cs k ≡ Some x) × (get_or cs k x ≡ x)
concept-is cs k lt = ⊎_elim (λ y. (y.0, y.2, y.3)) (λ past. absurd (omega (arith, lt, past.0))) (slice_get_cases cs k).1

pair-is : (cs : List Concept) (k : ℕ) (x : Concept) → k < length cs → get_or cs k x ≡ x → concept_at (map pair_of cs) k ≡ pair_of x
pair-is cs k x lt e = get_or-map pair_of cs k x ([], []) lt ∙ ap pair_of e

module _ (T : List (List Bool)) (w : ℕ) (cs : List Concept) (lattice : IsLattice T w cs) where
  abbrev xs : List Pair
  xs = map pair_of cs

  count : length (map pair_of cs) ≡ length cs
  count = length-map cs pair_of

  placed : (k : ℕ) (x : Concept) → k < length cs → get_or cs k x ≡ x → IsConceptPlaced T w (map (λ y. y.extent) cs) k x
  placed k x lt e = subst (IsConceptPlaced T w (map (λ y. y.extent) cs) k) e (lattice.placed k x lt)

  lists-column : (k c : ℕ) (lt : k < length cs) → lists_column cs k c ≡ list_any (λ (d : ColId). d.0 == c) (concept-is cs k lt).0.columns.items
  lists-column k c lt = ap (λ o. option_map_or (λ (y : Concept). list_any (λ (d : ColId). d.0 == c) y.columns.items) o false) (concept-is cs k lt).1

  lists-row : (k r : ℕ) (lt : k < length cs) → lists_row cs k r ≡ list_any (λ (q : RowId). q.0 == r) (concept-is cs k lt).0.rows.items
  lists-row k r lt = ap (λ o. option_map_or (λ (y : Concept). list_any (λ (q : RowId). q.0 == r) y.rows.items) o false) (concept-is cs k lt).1

  column-test : (k c : ℕ) → k < length cs → c < w → lists_column cs k c ≡ (is_filled (rows_with T c) && is_same_set (concept_at (map pair_of cs) k).0
      (rows_with T c))
  column-test k c lt cw =
      let x = concept-is cs k lt in
      let at = placed k x.0 lt x.2 in
      let ext : (concept_at (map pair_of cs) k).0 ≡ x.0.extent = ap (λ (p : Pair). p.0) (pair-is cs k x.0 lt x.2) in
      let filled = is_filled (rows_with T c) in
      let same = is_same_set x.0.extent (rows_with T c) in
      let whole : list_any (λ (d : ColId). d.0 == c) x.0.columns.items ≡ (filled && same) =
      same_truth (list_any (λ (d : ColId). d.0 == c) x.0.columns.items) (filled && same)
      (λ h.
      let s : ColumnStands T x.0.extent c = ((at.columns.each c).0 (any_contains (λ (d : ColId). d.0) x.0.columns.items c h)).1 in
      and_from filled same (filled-has (rows_with T c) s.live.0 (rows_with-bit T c s.live.0 ∙ s.live.2))
      (same_set-complete x.0.extent (rows_with T c)
      (λ r e. let rt = ext-below k x.0 lt x.2 r e in rows_with-bit T c r ∙ (s.rows r rt).0 e)
      (λ r e. let rt = with-below c r e in (s.rows r rt).1 (sym (rows_with-bit T c r) ∙ e))))
      (λ h.
      let p = and_parts filled same h in
      let sets = same_set-sound x.0.extent (rows_with T c) p.1 in
      let i = filled-some (rows_with T c) p.0 in
      contains_any (λ (d : ColId). d.0) x.0.columns.items c
      ((at.columns.each c).1 (
        cw,
        record {
          live = (i.0, with-below c i.0 i.1, sym (rows_with-bit T c i.0) ∙ i.1);
          rows = λ r rt. ((λ e. sym (rows_with-bit T c r) ∙ sets.0 r e), (λ e. sets.1 r (rows_with-bit T c r ∙ e)));
        },
      ))) in
      lists-column k c lt ∙ whole ∙ ap (λ s. filled && is_same_set s (rows_with T c)) (sym ext)
    where
      with-below : (c r : ℕ) → bit (rows_with T c) r ≡ true → r < length T
      with-below c r e = let lt = bit-below (rows_with T c) r e in omega (arith, lt, length-map T (λ s. bit s c))

      ext-length-at : (k : ℕ) → k < length cs → length (concept_at (map pair_of cs) k).0 ≡ length T
      ext-length-at k lt = (lattice.all.concepts.each k ([], []) (omega (arith, lt, length-map cs pair_of))).extent.len

      ext-below : (k : ℕ) (x : Concept) → k < length cs → get_or cs k x ≡ x → (r : ℕ) → bit x.extent r ≡ true → r < length T
      ext-below k x lt e r h =
          let b = bit-below x.extent r h in
          let len : length x.extent ≡ length T = ap (λ (p : Pair). length p.0) (sym (pair-is cs k x lt e)) ∙ ext-length-at k lt in
          omega (arith, b, len)

  row-test : (k r : ℕ) → k < length cs → r < length T → lists_row cs k r ≡ is_same_set (concept_at (map pair_of cs) k).1 (row T r)
  row-test k r lt rt =
      let x = concept-is cs k lt in
      let at = placed k x.0 lt x.2 in
      let int : (concept_at (map pair_of cs) k).1 ≡ x.0.intent = ap (λ (p : Pair). p.1) (pair-is cs k x.0 lt x.2) in
      let same = is_same_set x.0.intent (row T r) in
      let whole : list_any (λ (q : RowId). q.0 == r) x.0.rows.items ≡ same =
      same_truth (list_any (λ (q : RowId). q.0 == r) x.0.rows.items) same
      (λ h. let s : RowStands T x.0.intent r = ((at.rows.each r).0 (any_contains (λ (q : RowId). q.0) x.0.rows.items r h)).1 in same_set-complete
      x.0.intent (row T r) s.1 s.0)
      (λ h. let sets = same_set-sound x.0.intent (row T r) h in contains_any (λ (q : RowId). q.0) x.0.rows.items r
      ((at.rows.each r).1 (rt, (sets.1, sets.0)))) in
      lists-row k r lt ∙ whole ∙ ap (λ s. is_same_set s (row T r)) (sym int)

  column_listed : (c : ℕ) → c < w → listed_column cs c ≡ column_place T (map pair_of cs) c
  column_listed c cw =
      first_below_same (λ k. when (lists_column cs k c) (node k))
      (λ k. when (is_filled (rows_with T c) && is_same_set (concept_at (map pair_of cs) k).0 (rows_with T c)) (node k)) (length cs)
      (λ k lt. ap (λ b. when b (node k)) (column-test k c lt cw))
      ∙ ap (λ n. first_below n (λ k. when (is_filled (rows_with T c) && is_same_set (concept_at (map pair_of cs) k).0 (rows_with T c)) (node k))) (sym count)

  row_listed : (r : ℕ) → r < length T → row_node cs r ≡ row_place (map pair_of cs) (row T r)
  row_listed r rt =
      ap (λ o. unwrap_or o (node 0))
      (first_below_same (λ k. when (lists_row cs k r) (node k)) (λ k. when (is_same_set (concept_at (map pair_of cs) k).1 (row T r)) (node k))
      (length cs) (λ k lt. ap (λ b. when b (node k)) (row-test k r lt rt))
      ∙ ap (λ n. first_below n (λ k. when (is_same_set (concept_at (map pair_of cs) k).1 (row T r)) (node k))) (sym count))

  pub columns_start : map (listed_column cs) (range_with_len 0 w) ≡ map (column_place T (map pair_of cs)) (range_with_len 0 w)
  columns_start =
      each_given (column_place T (map pair_of cs)) w None (map (listed_column cs) (range_with_len 0 w)) (length-map-range_with_len (listed_column cs) 0 w)
      (λ i lt. get_or-map-range_with_len (listed_column cs) 0 w i i None lt (omega arith) ∙ column_listed i lt)

  pub rows_start : map (row_node cs) (range_with_len 0 (length T)) ≡ map (row_place (map pair_of cs)) T
  rows_start =
      ext_get_or (node 0) (map (row_node cs) (range_with_len 0 (length T))) (map (row_place (map pair_of cs)) T)
      (length-map-range_with_len (row_node cs) 0 (length T) ∙ sym (length-map T (row_place (map pair_of cs))))
      (λ i lt.
      let il : i < length T = omega (arith, lt, length-map-range_with_len (row_node cs) 0 (length T)) in
      get_or-map-range_with_len (row_node cs) 0 (length T) i i (node 0) il (omega arith) ∙ row_listed i il
      ∙ sym (get_or-map (row_place (map pair_of cs)) T i [] (node 0) il))

  -- what the parts of the start ask of the lattice
  module _ (widths : HasWidth w T) where
    inside : (k : ℕ) → k < length cs → k < length (map pair_of cs)
    inside k lt = omega (arith, lt, length-map cs pair_of)

    pub extents_alike : (i j : ℕ) → i < length cs → j < length cs → length (extent_of cs i) ≡ length (extent_of cs j)
    extents_alike i j il jl = ext-length T w widths (map pair_of cs) lattice.all i (inside i il)
        ∙ sym (ext-length T w widths (map pair_of cs) lattice.all j (inside j jl))

    pub intents_wide : (k : ℕ) → k < length cs → length (intent_of cs k) ≡ w
    intents_wide k lt = int-length T w widths (map pair_of cs) lattice.all k (inside k lt)

    pub order_orders : IsPartialOrder (order_of (map pair_of cs))
    order_orders = order_partial T w widths (map pair_of cs) lattice.all

-- two hierarchies with the same parts are one
pub same_parts : (o o2 : Ordered) (cs cs2 : List (Option NodeId)) (rs rs2 : List NodeId) (ts ts2 ms ms2 : List (List ℕ))
    (os os2 : List (Option ClassId)) (T T2 : List (List Bool)) → o ≡ o2 → cs ≡ cs2 → rs ≡ rs2 → ts ≡ ts2 → ms ≡ ms2 → os ≡ os2 → T ≡ T2
    → hierarchy_of o cs rs ts ms os T ≡ hierarchy_of o2 cs2 rs2 ts2 ms2 os2 T2
same_parts o o2 cs cs2 rs rs2 ts ts2 ms ms2 os os2 T T2 e1 e2 e3 e4 e5 e6 e7 =
    ap (λ x. hierarchy_of x cs rs ts ms os T) e1
    ∙ ap (λ x. hierarchy_of o2 x rs ts ms os T) e2
    ∙ ap (λ x. hierarchy_of o2 cs2 x ts ms os T) e3
    ∙ ap (λ x. hierarchy_of o2 cs2 rs2 x ms os T) e4
    ∙ ap (λ x. hierarchy_of o2 cs2 rs2 ts2 x os T) e5
    ∙ ap (λ x. hierarchy_of o2 cs2 rs2 ts2 ms2 x T) e6
    ∙ ap (λ x. hierarchy_of o2 cs2 rs2 ts2 ms2 os2 x) e7

-- the names of members and types
member_names-length : (F : Facts) (n : ℕ) → length (member_names F n) ≡ n
member_names-length F zero = refl
member_names-length F (suc n) = omega (arith, length_push (member_names F n) (named_member F (member_names F n) n), member_names-length F n)

pub member_names-at : (F : Facts) (n c : ℕ) → c < n → get_or (member_names F n) c [] ≡ named_member F (member_names F c) c
member_names-at F zero c lt = absurd (omega (arith, lt))
member_names-at F (suc n) c lt =
    ⊎_elim
    (λ less. get_or_append_left (member_names F n) (named_member F (member_names F n) n ∷ []) [] c (omega (arith, less, member_names-length F n))
    ∙ member_names-at F n c less)
    (λ last. let e : n ≡ c = omega (arith, last, lt) in get_or_push (member_names F n) (named_member F (member_names F n) n) [] c
    (member_names-length F n ∙ e) ∙ ap (λ k. named_member F (member_names F k) k) e)
    (cases_lt c n)

type_names-length : (F : Facts) (members : List (List ℕ)) (os : List (Option ClassId)) (n : ℕ) → length (type_names F members os n) ≡ n
type_names-length F members os zero = refl
type_names-length F members os (suc n) =
    omega (
      arith,
      length_push (type_names F members os n) (named_type F os (members ++ type_names F members os n) n),
      type_names-length F members os n,
    )

method_kind : (k : ColKind) → is_method k ≡ true → is_field k ≡ false
method_kind Dcl h = refl
method_kind Def h = refl
method_kind Fld h = absurd (false≢true h)
method_kind Is h = absurd (false≢true h)

-- a method keeps its name
method_name : (F : Facts) (given : List (List ℕ)) (c : ℕ) → is_method (column_kind F c) ≡ true → named_member F given c ≡ name_of F c
method_name F given c h = rw (method_kind (column_kind F c) h) refl

slot-below : (F : Facts) (c x : ℕ) → column_slot F c ≡ Some x → c < length F.columns.items
slot-below F c x e =
    ⊎_elim (λ lt. lt)
    (λ past.
    let none : ColumnInfo = record { kind = Is; class = record { 0 = 0 }; slot = None; name = []; label = [] } in
    let gone : column_at F c ≡ none = get_or_past F.columns.items c none past in
    absurd (cc (sym e ∙ ap (λ (k : ColumnInfo). k.slot) gone)))
    (cases_lt c (length F.columns.items))

all_filter : (P : ClassId → Type 0) (p : ClassId → Bool) (g : ℕ → ClassId) → ((c : ℕ) → P (g c)) → (cs : List ℕ) → All P (filter p (map g cs))
all_filter P p g all [] = λ i d lt. absurd (omega (arith, lt))
all_filter P p g all (c ∷ cs) =
    ⊎_elim
    (λ t. rw t (All-cons P (g c) (filter p (map g cs)) (all c) (all_filter P p g all cs)))
    (λ f. rw f (all_filter P p g all cs))
    (cases_Bool (p (g c)))

column-class : (F : Facts) → InRange F → 0 < length F.classes.items → (c : ℕ) → IsClass F (column_at F c).class
column-class F R some c =
    ⊎_elim
    (λ lt. R.columns c (record { kind = Is; class = record { 0 = 0 }; slot = None; name = []; label = [] }) lt)
    (λ past.
    let none : ColumnInfo = record { kind = Is; class = record { 0 = 0 }; slot = None; name = []; label = [] } in
    subst (λ (k : ColumnInfo). IsClass F k.class) (sym (get_or_past F.columns.items c none past)) some)
    (cases_lt c (length F.columns.items))

start_class : (F : Facts) → InRange F → 0 < length F.classes.items → (intent : List Bool) → IfSome (start_origin F intent) (IsClass F)
start_class F R some intent =
    ⊎_elim
    (λ none. subst (λ o. IsClass F (unwrap_or o (record { 0 = 0 }))) (sym none) some)
    (λ k.
    subst (λ o. IsClass F (unwrap_or o (record { 0 = 0 }))) (sym k.1)
    (lowest_member F (IsClass F) (is_below_all F (owners F intent)) (owners F intent) k.0 k.1
    (all_filter (IsClass F) (λ (x : ClassId). not (is_interface F x.0)) (λ c. (column_at F c).class) (column-class F R some) (rising intent))))
    (cases_Option (lowest F (owners F intent)))

-- the table of the facts
pub keeps_table : (F : Facts) (t : Table) → IsTable F t → KeepsTable F t.rows.items
keeps_table F t h = record { rows = h.sized.rows; widths = subst (λ w. HasWidth w t.rows.items) h.sized.columns h.sized.widths; entries = h.entries }

module _ (F : Facts) (R : InRange F) (O : InOrder F) (T : List (List Bool)) (keeps : KeepsTable F T) (xs : List Pair)
    (all : AreAllConcepts T (length F.columns.items) xs) where
  origins-length : length (origins_of F xs) ≡ length xs
  origins-length = length-map xs (λ (k : Pair). start_origin F k.1)

  row-inside : (r : ℕ) → r < length F.rows.items → r < length T
  row-inside r lt = omega (arith, lt, keeps.rows)

  -- a live node has a row, so there is some class
  some-class : (n : ℕ) → is_live (order_of xs) n ≡ true → 0 < length F.classes.items
  some-class n h =
      let nl : n < length xs = omega (arith, bit-below (order_of xs).live n h, nodes-count T (length F.columns.items) keeps.widths xs all) in
      let filled : is_filled (concept_at xs n).0 ≡ true = sym (get_or-map (λ (k : Pair). is_filled k.0) xs n ([], []) false nl) ∙ h in
      let i = filled-some (concept_at xs n).0 filled in
      let il : i.0 < length F.rows.items = omega (
        arith,
        bit-below (concept_at xs n).0 i.0 i.1,
        ext-length T (length F.columns.items) keeps.widths xs
            all n nl,
        keeps.rows,
      ) in
      let info : RowInfo = record { label = []; class = record { 0 = 0 }; dim = 0; site = None; this_of = None } in
      let class = (R.rows i.0 info il).0 in
      omega (arith, class)

  pub start_fits : IsHierarchyOf F (start_of F T xs)
  start_fits = record {
    sized = record {
      order = order_partial T (length F.columns.items) keeps.widths xs all;
      types = type_names-length F (member_names F (length F.columns.items)) (origins_of F xs) (length (origins_of F xs)) ∙ origins-length
          ∙ sym (nodes-count T (length F.columns.items) keeps.widths xs all);
      origins = origins-length ∙ sym (nodes-count T (length F.columns.items) keeps.widths xs all);
      columns = length-map-range_with_len (column_place T xs) 0 (length F.columns.items);
      members = member_names-length F (length F.columns.items);
      rows = length-map T (row_place xs) ∙ keeps.rows;
    };
    placed = record {
      columns = λ c p e.
          ⊎_elim
          (λ lt. column_lives T (length F.columns.items) keeps.widths xs all c p
          (sym (get_or-map-range_with_len (column_place T xs) 0 (length F.columns.items) c c None lt (omega arith)) ∙ e))
          (λ past. absurd (cc (sym (get_or_past (start_of F T xs).columns c None
          (omega (arith, past, length-map-range_with_len (column_place T xs) 0 (length F.columns.items)))) ∙ e)))
          (cases_lt c (length F.columns.items));
      rows = λ r lt. subst (λ (n : NodeId). is_live (order_of xs) n.0 ≡ true) (sym (row-at r (row-inside r lt)))
          (row_lives T (length F.columns.items) keeps.widths xs all r (row-inside r lt));
      these = λ r d e.
          let rt : r < length T = row-inside r (this-below F r d e) in
          let dt : d.0 < length F.columns.items = this-column F R r d e in
          get_or-map-range_with_len (column_place T xs) 0 (length F.columns.items) d.0 d.0 None dt (omega arith)
          ∙ this_stands F R T keeps xs all r d e ∙ ap Some (sym (row-at r rt));
    };
    names = λ a b x ma mb ea eb.
        member_names-at F (length F.columns.items) a (slot-below F a x ea) ∙ method_name F (member_names F a) a ma
        ∙ O.members.names a b x ea eb
        ∙ sym (member_names-at F (length F.columns.items) b (slot-below F b x eb) ∙ method_name F (member_names F b) b mb);
    origins = λ n h.
        let nl : n < length xs = omega (arith, bit-below (order_of xs).live n h, nodes-count T (length F.columns.items) keeps.widths xs all) in
        subst (λ o. IfSome o (IsClass F)) (sym (get_or-map (λ (k : Pair). start_origin F k.1) xs n ([], []) None nl))
        (start_class F R (some-class n h) (concept_at xs n).1);
    table = keeps;
  }
    where
      row-at : (r : ℕ) → r < length T → get_or (start_of F T xs).rows r (node 0) ≡ row_place xs (row T r)
      row-at r rt = get_or-map (row_place xs) T r [] (node 0) rt

      this-column : (F : Facts) → InRange F → (v : ℕ) (d : ColId) → row_this F v ≡ Some d → d.0 < length F.columns.items
      this-column F R v d e =
          let info : RowInfo = record { label = []; class = record { 0 = 0 }; dim = 0; site = None; this_of = None } in
          let some = (R.rows v info (this-below F v d e)).2 in
          subst (λ o. IfSome o (IsCol F)) e some
