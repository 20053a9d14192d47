-- What the edits make of the nodes: one put below another, a node gone, and nodes that become one.
use Rattle.std.proofs.Common.{◌≡◌, ℕ, zero, suc, ◌<◌, ◌⊎◌, inl, inr, ⊎_elim, ◌==◌, ◌&&◌, ◌||◌, not, true, false, cond, List, [], ◌∷◌, length, map, get_or, Option, Some, None, All, refl, sym, ap, ◌∙◌, subst, arith}
use Rattle.std.specs.Prelude.{slice_set}
use Rattle.std.specs.Option.{option_map, option_and_then}
use Rattle.std.proofs.lemmas.Bool.{cases_Bool, cases_lt, cases_eq, and_parts, and_from, or_cases}
use Rattle.std.proofs.lemmas.List.{get_or-map, get_or-set_same, get_or-set_other, length-map, get_or_past}
use Rattle.std.proofs.Math.ListN.{get_or-map as get_or_map_default}
use Rattle.kaba_base.specs.declared.NodeId.{NodeId}
use Rattle.kaba_base.specs.declared.ClassId.{ClassId}
use Rattle.kaba_bits.specs.Sets.{row}
use Rattle.kaba_bits.proofs.FirstLemmas.{cases_Option}
use Rattle.kaba_order.specs.Orders.{is_le, is_live, IsPartialOrder, is_among, is_below_some, is_above_some, stays, merged_to, IsLeastMerged}
use Rattle.kaba_order.proofs.MergeLemmas.{has_any_some, any_has_some, among-All}
use Rattle.fact_model.specs.Classes.{below}
use Rattle.fact_model.specs.declared.facts.Facts.{Facts}
use Rattle.hier_model.specs.Hierarchies.{Hierarchy, node, place_of_column, place_of_row, origin_of}
use Rattle.hier_model.specs.Start.{is_below_all, lowest}
use Rattle.hier_model.specs.Edits.{merged_order, under_order, dropped_order, least_of, first_between, all_there, merged_origin, merged_node, merged}
use Rattle.hier_model.proofs.MergedLemmas.{none_between, least_is}
use Rattle.hier_model.proofs.OrderedLemmas.{made_le}
use Rattle.hier_model.proofs.EditedOrders.{under_pairs, dropped_made, merged_made, merged_le, merged_live, merged_below, least_among}
use Rattle.hier_laws.proofs.ShapeLemmas.{shape, placed}
use Rattle.hier_tree.specs.Origins.{IsPutUnder, becomes, IsMadeOne, IsWithout}

module _ (H : Hierarchy) (p : IsPartialOrder H.order) where
  pub put_under : (l h : ℕ) → IsPutUnder (shape H) l h (shape (record H { order = under_order H.order l h }))
  put_under l h = record { le = under_pairs H.order p l h; column = λ c. refl; row = λ r. refl }

  pub without : (x : ℕ) → IsWithout (shape H) x (shape (record H { order = dropped_order H.order x }))
  without x = record {
    le = λ a b k.
        let pairs = (dropped_made H.order p x).le a b in
        (and_parts (is_le H.order a b) (not (a == x)) (and_parts (is_le H.order a b && not (a == x)) (not (b == x)) (sym pairs ∙ k)).0).0;
    column = λ c. refl;
    row = λ r. refl;
  }

-- classes that are all there are all one
all_there_one : (k : ClassId) (os : List (Option ClassId)) → All (λ o. o ≡ Some k) os → (ks : List ClassId) × (all_there os ≡ Some ks)
    × (length ks ≡ length os) × All (λ x. x ≡ k) ks
all_there_one k [] all = ([], refl, refl, λ i d lt. absurd (omega (arith, lt)))
all_there_one k (o ∷ os) all =
    let here : o ≡ Some k = all 0 None (omega arith) in
    let rest = all_there_one k os (λ i d lt. all (suc i) d (omega (arith, lt))) in
    let joined : all_there (o ∷ os) ≡ Some (k ∷ rest.0) = ap (λ x. all_there (x ∷ os)) here ∙ ap (option_map (λ ks. k ∷ ks)) rest.1 in (
      k ∷ rest.0,
      joined,
      ap suc rest.2,
      λ i d. elim i as (λ j. j < length (k ∷ rest.0) → get_or (k ∷ rest.0) j d ≡ k) [
        | zero ↦ λ _. refl
        | suc j ↦ λ lt. rest.3 j d (omega (arith, lt))
      ],
    )

below_each : (F : Facts) (k : ClassId) → below F k.0 k.0 ≡ true → (ks : List ClassId) → All (λ x. x ≡ k) ks → is_below_all F ks k ≡ true
below_each F k b [] all = refl
below_each F k b (x ∷ ks) all =
    let here : x ≡ k = all 0 x (omega arith) in
    and_from (below F k.0 x.0) (is_below_all F ks k) (subst (λ (y : ClassId). below F k.0 y.0 ≡ true) (sym here) b)
    (below_each F k b ks (λ i d lt. all (suc i) d (omega (arith, lt))))

lowest_one : (F : Facts) (k : ClassId) → below F k.0 k.0 ≡ true → (ks : List ClassId) → 0 < length ks → All (λ x. x ≡ k) ks → lowest F ks ≡ Some k
lowest_one F k b [] some all = absurd (omega (arith, some))
lowest_one F k b (x ∷ ks) some all =
    let here : x ≡ k = all 0 x (omega arith) in
    let test : is_below_all F (x ∷ ks) x ≡ true = subst (λ (y : ClassId). is_below_all F (x ∷ ks) y ≡ true) (sym here) (below_each F k b (x ∷ ks) all) in
    rw test (ap Some here)

module _ (F : Facts) (H : Hierarchy) (p : IsPartialOrder H.order) (set : List NodeId) (all : All (λ s. is_live H.order s.0 ≡ true) set)
    (some : 0 < length set) where
  abbrev pub least : ℕ
  least = least_of H.order set

  low : (is_among set least ≡ true) × (least < length H.order.live)
  low = least_among H.order set some all

  pub among_live : (s : ℕ) → is_among set s ≡ true → is_live H.order s ≡ true
  among_live s h = among-All (λ x. is_live H.order x ≡ true) set all s h

  pub least_there : is_among set least ≡ true
  least_there = low.0

  column_of : (c : ℕ) → place_of_column (merged F H set) c ≡ option_map (merged_node set least) (place_of_column H c)
  column_of c = get_or_map_default (option_map (merged_node set least)) H.columns c None

  row_of : (r : ℕ) → place_of_row (merged F H set) r ≡ becomes (is_among set) least (place_of_row H r)
  row_of r =
      ⊎_elim
      (λ lt. ap (λ (q : NodeId). q.0) (get_or-map (merged_node set least) H.rows r (node 0) (node 0) lt))
      (λ past.
      let len = length-map H.rows (merged_node set least) in
      let new : place_of_row (merged F H set) r ≡ 0 = ap (λ (q : NodeId). q.0) (get_or_past (map (merged_node set least) H.rows) r (node 0)
      (omega (arith, past, len))) in
      let old : place_of_row H r ≡ 0 = ap (λ (q : NodeId). q.0) (get_or_past H.rows r (node 0) past) in
      new ∙ sym (ap (becomes (is_among set) least) old ∙ zero_stays (cases_Bool (is_among set 0))))
      (cases_lt r (length H.rows))
    where
      zero_stays : (is_among set 0 ≡ true) ⊎ (is_among set 0 ≡ false) → becomes (is_among set) least 0 ≡ 0
      zero_stays (inl h) = ap (λ b. cond b least 0) h ∙ least_is H.order set p all 0 (record { among = h; least = λ x _. omega arith })
      zero_stays (inr h) = ap (λ b. cond b least 0) h

  module _ (none : first_between H.order set ≡ None) where
    made : IsLeastMerged H.order set least (merged_order H.order set least)
    made = merged_made H.order p set least least_there among_live (none_between H.order set p none)

    only : (a b : ℕ) → is_le (merged_order H.order set least) a b ≡ true
        → (is_le H.order a b ≡ true) ⊎ (((s : ℕ) × (is_among set s ≡ true) × (is_le H.order a s ≡ true))
        × ((s : ℕ) × (is_among set s ≡ true) × (is_le H.order s b ≡ true)))
    only a b h =
        let pair = is_le H.order a b || (is_below_some H.order set a && is_above_some H.order set b) in
        let pairs = made_le H.order (λ x. is_live H.order x && stays set least x) (merged_le H.order p set least) (merged_live H.order p set least)
        (merged_below H.order p set least) a b in
        let x = and_parts pair (stays set least a) (and_parts (pair && stays set least a) (stays set least b) (sym pairs ∙ h)).0 in
        ⊎_elim
        (λ y. inl y)
        (λ y. let z = and_parts (is_below_some H.order set a) (is_above_some H.order set b) y in inr
        (has_any_some (row H.order.le a) set z.0, any_has_some H.order.le set b z.1))
        (or_cases (is_le H.order a b) (is_below_some H.order set a && is_above_some H.order set b) x.0)

    pub made_one : IsMadeOne (shape H) (is_among set) least (shape (merged F H set))
    made_one = record {
      holds = made.holds;
      only = only;
      column = λ c n h.
          ⊎_elim
          (λ gone. absurd (cc (sym (ap (option_map (λ (q : NodeId). q.0)) (column_of c ∙ ap (option_map (merged_node set least)) gone)) ∙ h)))
          (λ at.
          let is : Some (merged_to set least at.0.0) ≡ Some n = sym (ap (option_map (λ (q : NodeId). q.0)) (column_of c
          ∙ ap (option_map (merged_node set least)) at.1)) ∙ h in
          let same : n ≡ merged_to set least at.0.0 = cc (sym is) in
          (at.0.0, ap (option_map (λ (q : NodeId). q.0)) at.1, same))
          (cases_Option (place_of_column H c));
      column_holds = λ c k h. ap (option_map (λ (q : NodeId). q.0)) (column_of c ∙ ap (option_map (merged_node set least)) (placed H c k h));
      row = row_of;
    }

    -- a node of the merged order is one of before
    pub merged_lives : (n : ℕ) → is_live (merged_order H.order set least) n ≡ true → is_live H.order n ≡ true
    merged_lives n h = (and_parts (is_live H.order n) (stays set least n) (sym (made.live n) ∙ h)).0

    pub merged_count : length (merged_order H.order set least).live ≡ length H.order.live
    merged_count = made.count

  -- nodes that come from one class come from it still
  module _ (k : ClassId) (self : below F k.0 k.0 ≡ true) (each : (s : ℕ) → is_among set s ≡ true → origin_of H s ≡ Some k)
      (each_of : All (λ s. origin_of H s.0 ≡ Some k) set) (sized : length H.origins ≡ length H.order.live) where
    origin_is : merged_origin F (map (λ s. origin_of H s.0) set) ≡ Some k
    origin_is =
        let f = λ (s : NodeId). origin_of H s.0 in
        let len = length-map set f in
        let os : All (λ o. o ≡ Some k) (map f set) = λ i d lt.
        let inside : i < length set = omega (arith, lt, len) in
        get_or-map f set i (node 0) d inside ∙ each_of i (node 0) inside in
        let ks = all_there_one k (map f set) os in
        ap (option_and_then (lowest F)) ks.1 ∙ lowest_one F k self ks.0 (omega (arith, some, len, ks.2)) ks.3

    pub same_origin : (n : ℕ) → origin_of (merged F H set) n ≡ origin_of H n
    same_origin n =
        let x = merged_origin F (map (λ s. origin_of H s.0) set) in
        ⊎_elim
        (λ same.
        ap (λ j. get_or (slice_set H.origins least x) j None) same ∙ get_or-set_same H.origins least x None (omega (arith, low.1, sized)) ∙ origin_is
        ∙ sym (each least least_there) ∙ ap (origin_of H) (sym same))
        (λ other. get_or-set_other H.origins least n x None other)
        (cases_eq n least)
