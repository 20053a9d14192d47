-- A merge, and a node put under another, are joins; and what an edit of a name leaves to be asked.
use Rattle.std.proofs.Common.{◌≡◌, ◌⊎◌, ℕ, ◌<◌, ◌&&◌, ◌||◌, ◌==◌, not, Bool, true, false, cond, List, [], ◌∷◌, length, map, get_or, Option, Some, None, Result, Ok, Err, All, refl, sym, ap, ◌∙◌, subst, arith, ⊎_elim, inl, inr}
use Rattle.std.specs.Prelude.{slice_set}
use Rattle.std.specs.Option.{option_map}
use Rattle.std.specs.declared.vec.Vec.{Vec}
use Rattle.std.specs.declared.alloc.Global.{Global}
use Rattle.std.proofs.lemmas.Bool.{eqb-true, eq-eqb, cases_Bool, cases_lt, false≢true, or_left, and_parts, and_from}
use Rattle.std.proofs.lemmas.List.{get_or-map, length-map, get_or_past}
use Rattle.std.proofs.Math.ListN.{get_or-map as get_or_map_default}
use Rattle.kaba_base.specs.declared.NodeId.{NodeId}
use Rattle.kaba_base.specs.declared.ColId.{ColId}
use Rattle.kaba_bits.specs.Sets.{bit, or_else}
use Rattle.kaba_bits.proofs.SetLemmas.{bit-below}
use Rattle.kaba_bits.proofs.FirstLemmas.{or_else-None}
use Rattle.kaba_order.specs.Orders.{is_le, is_live, is_among, merged_to, stays, IsLeastMerged}
use Rattle.kaba_order.proofs.MergeLemmas.{among-All, stays-merged}
use Rattle.fact_model.specs.Items.{column_kind}
use Rattle.fact_model.specs.declared.facts.Facts.{Facts}
use Rattle.fact_model.specs.declared.sets.PointsTo.{PointsTo}
use Rattle.hier_model.specs.Hierarchies.{Hierarchy, IsHierarchyOf, node, place_of_column, place_of_row, is_above, is_at, stands_at, is_offered}
use Rattle.hier_model.specs.Edits.{merged_order, under_order, least_of, first_between, merged_node, merged, renamed, first_unknown, is_placed, is_mark, unless, changed, NamesSome}
use Rattle.hier_model.specs.declared.edits.Edit.{Edit}
use Rattle.hier_model.specs.declared.edits.Edit.TheVariants as edit
use Rattle.hier_model.specs.declared.edits.ChangeFault.{ChangeFault}
use Rattle.hier_model.specs.declared.edits.ChangeFault.TheVariants.{UnknownNode, UnknownMember, Cycle}
use Rattle.hier_model.proofs.FitLemmas.{all_live}
use Rattle.hier_model.proofs.MergedLemmas.{none_between, least_is}
use Rattle.hier_model.proofs.EditedOrders.{under_pairs, under_live, merged_le, merged_below, merged_live, merged_made, least_among}
use Rattle.hier_model.proofs.OrderedLemmas.{made_le}
use Rattle.hier_rules.specs.Obligations.{first_unoffered, first_untied}
use Rattle.hier_rules.specs.Names.{first_confused, first_misnamed}
use Rattle.hier_rules.specs.After.{AreApartOutside, AreKeptOutside}
use Rattle.hier_rules.specs.First.{first_changed_run, first_of_edit, MeetsEdit}
use Rattle.hier_rules.proofs.AfterLemmas.{IsJoin, after_join, bodies_after}
use Rattle.hier_rules.proofs.LocalLemmas.{IsLocal, kept_outside, under_local, merged_local}

unless_ok : (o : Option NodeId) (f : NodeId → ChangeFault) (r : Result Hierarchy ChangeFault) (h : Hierarchy) → unless o f r ≡ Ok h → (o ≡ None) × (r ≡ Ok h)
unless_ok None f r h e = (refl, e)
unless_ok (Some n) f r h e = absurd (cc e)

if_ok : (b : Bool) (x : ChangeFault) (k h : Hierarchy) → cond b (Err x) (Ok k) ≡ Ok h → (b ≡ false) × (k ≡ h)
if_ok true x k h e = absurd (cc e)
if_ok false x k h e = (refl, cc e)

or_err : (b : Bool) (x : ChangeFault) (k h : Hierarchy) → cond b (Ok k) (Err x) ≡ Ok h → k ≡ h
or_err true x k h e = cc e
or_err false x k h e = absurd (cc e)

is_ok : (k h : Hierarchy) → ◌≡◌ {A = Result Hierarchy ChangeFault} (Ok k) (Ok h) → k ≡ h
is_ok k h e = cc e

module _ (F : Facts) (H : Hierarchy) (fit : IsHierarchyOf F H) where
  module _ (n p : ℕ) where
    abbrev under : Hierarchy
    under = record H { order = under_order H.order n p }

    le_stays : (a b : ℕ) → is_le H.order a b ≡ true → is_le under.order a b ≡ true
    le_stays a b h = under_pairs H.order fit.sized.order n p a b ∙ or_left (is_le H.order a b) (is_le H.order a n && is_le H.order p b) h

    under_join : IsJoin [] H under
    under_join =
        let live = under_live H.order fit.sized.order n p in
        record {
          count = ap length live;
          lives = λ k h. subst (λ l. bit l k ≡ true) live h;
          rows = λ r v h. le_stays (place_of_row H r) (place_of_row H v) h;
          offers = λ r c h. at (place_of_row H r) (place_of_column H c) h;
          stay = λ k out h. subst (λ l. bit l k ≡ true) (sym live) h;
          offers_on = λ k c on h. at k (place_of_column H c) h;
          under = λ k r on h. le_stays k (place_of_row H r) h;
          stands = λ k c h. (k, h);
          apart = λ k c out h. h;
          table = refl;
          types = refl;
          members = refl;
        }
      where
        at : (k : ℕ) (o : Option NodeId) → is_above H.order k o ≡ true → is_above under.order k o ≡ true
        at k None h = h
        at k (Some q) h = le_stays k q.0 h

  module _ (set : List NodeId) (some : 0 < length set) (all : All (λ s. is_live H.order s.0 ≡ true) set) (none : first_between H.order set ≡ None) where
    abbrev m : ℕ
    m = least_of H.order set

    abbrev one : Hierarchy
    one = merged F H set

    low : (is_among set m ≡ true) × (m < length H.order.live)
    low = least_among H.order set some all

    made : IsLeastMerged H.order set m (merged_order H.order set m)
    made = merged_made H.order fit.sized.order set m low.0 (λ s h. among-All (λ x. is_live H.order x ≡ true) set all s h)
        (none_between H.order set fit.sized.order none)

    column_of : (c : ℕ) → place_of_column one c ≡ option_map (merged_node set m) (place_of_column H c)
    column_of c = get_or_map_default (option_map (merged_node set m)) H.columns c None

    row_of : (r : ℕ) → place_of_row one r ≡ merged_to set m (place_of_row H r)
    row_of r =
        ⊎_elim
        (λ lt. ap (λ (q : NodeId). q.0) (get_or-map (merged_node set m) H.rows r (node 0) (node 0) lt))
        (λ past.
        let len = length-map H.rows (merged_node set m) in
        let new : place_of_row one r ≡ 0 = ap (λ (q : NodeId). q.0) (get_or_past (map (merged_node set m) H.rows) r (node 0) (omega (arith, past, len))) in
        let old : place_of_row H r ≡ 0 = ap (λ (q : NodeId). q.0) (get_or_past H.rows r (node 0) past) in
        new ∙ sym (ap (merged_to set m) old ∙ zero_stays (cases_Bool (is_among set 0))))
        (cases_lt r (length H.rows))
      where
        zero_stays : (is_among set 0 ≡ true) ⊎ (is_among set 0 ≡ false) → merged_to set m 0 ≡ 0
        zero_stays (inl h) = ap (λ b. cond b m 0) h ∙ least_is H.order set fit.sized.order all 0 (record { among = h; least = λ x _. omega arith })
        zero_stays (inr h) = ap (λ b. cond b m 0) h

    rows_stay : (a b : ℕ) → is_le H.order (place_of_row H a) (place_of_row H b) ≡ true → is_le one.order (place_of_row one a) (place_of_row one b) ≡ true
    rows_stay a b h = rw (row_of a, row_of b) (made.holds (place_of_row H a) (place_of_row H b) h)

    offers_stay : (k n c : ℕ) → n ≡ merged_to set m k → is_offered H k c ≡ true → is_offered one n c ≡ true
    offers_stay k n c to h = at (place_of_column H c) refl h
      where
        at : (o : Option NodeId) → place_of_column H c ≡ o → is_above H.order k o ≡ true → is_offered one n c ≡ true
        at None e h = absurd (false≢true h)
        at (Some q) e h =
            ap (is_above one.order n) (column_of c ∙ ap (option_map (merged_node set m)) e)
            ∙ ap (λ x. is_le one.order x (merged_to set m q.0)) to ∙ made.holds k q.0 h

    -- a node that is there stays the same
    stays_itself : (n : ℕ) → is_live one.order n ≡ true → n ≡ merged_to set m n
    stays_itself n on = sym (stays-merged set m n (and_parts (is_live H.order n) (stays set m n) (sym (made.live n) ∙ on)).1)

    rows_under : (n r : ℕ) → is_live one.order n ≡ true → is_le H.order n (place_of_row H r) ≡ true → is_le one.order n (place_of_row one r) ≡ true
    rows_under n r on h =
        ap (is_le one.order n) (row_of r)
        ∙ ap (λ x. is_le one.order x (merged_to set m (place_of_row H r))) (stays_itself n on) ∙ made.holds n (place_of_row H r) h

    stood : (n c : ℕ) → stands_at one n c ≡ true → (q : NodeId) × (place_of_column H c ≡ Some q) × (merged_to set m q.0 ≡ n)
    stood n c h = at (place_of_column H c) refl
      where
        at : (o : Option NodeId) → place_of_column H c ≡ o → (q : NodeId) × (place_of_column H c ≡ Some q) × (merged_to set m q.0 ≡ n)
        at None e = absurd (false≢true (sym (ap (is_at n) (column_of c ∙ ap (option_map (merged_node set m)) e)) ∙ h))
        at (Some q) e = (q, e, eqb-true (merged_to set m q.0) n (sym (ap (is_at n) (column_of c ∙ ap (option_map (merged_node set m)) e)) ∙ h))

    stands_apart : (n c : ℕ) → is_among set n ≡ false → stands_at one n c ≡ true → stands_at H n c ≡ true
    stands_apart n c out h =
        let q = stood n c h in
        ⊎_elim
        (λ t.
        let same : m ≡ n = sym (ap (λ b. cond b m q.0.0) t) ∙ q.2 in
        absurd (false≢true (sym out ∙ subst (λ x. is_among set x ≡ true) same low.0)))
        (λ f. ap (is_at n) q.1 ∙ eq-eqb q.0.0 n (sym (ap (λ b. cond b m q.0.0) f) ∙ q.2))
        (cases_Bool (is_among set q.0.0))

    merged_join : IsJoin set H one
    merged_join = record {
      count = made.count;
      lives = λ k h. (and_parts (is_live H.order k) (stays set m k) (sym (made.live k) ∙ h)).0;
      rows = rows_stay;
      offers = λ r c h. offers_stay (place_of_row H r) (place_of_row one r) c (row_of r) h;
      stay = λ n out h. made.live n ∙ and_from (is_live H.order n) (stays set m n) h (ap (λ b. not b || (n == m)) out);
      offers_on = λ n c on h. offers_stay n n c (stays_itself n on) h;
      under = rows_under;
      stands = λ n c h. let q = stood n c h in (q.0.0, ap (is_at q.0.0) q.1 ∙ eq-eqb q.0.0 q.0.0 refl);
      apart = stands_apart;
      table = refl;
      types = refl;
      members = refl;
    }

    one_local : IsLocal set H one
    one_local =
        let p = fit.sized.order in
        merged_local H one set m low.0 made
        (made_le H.order (λ a. is_live H.order a && stays set m a) (merged_le H.order p set m) (merged_live H.order p set m) (merged_below H.order p set m))
        column_of row_of

  module _ (K : Hierarchy) (x : Edit) (e : changed F H x ≡ Ok K) where
    -- what a merge leaves above all that is not at or below the merged nodes
    pub merge_local : (set : Vec NodeId Global) → x ≡ edit.Merge set → NamesSome x
        → IsLocal set.items H K × All (λ s. s.0 < length K.order.live) set.items × IsJoin set.items H K
    merge_local set is names =
        let some : 0 < length set.items = subst NamesSome is names in
        let made : changed F H (edit.Merge set) ≡ Ok K = subst (λ (y : Edit). changed F H y ≡ Ok K) is e in
        let a = unless_ok (first_unknown H.order set.items) UnknownNode (unless (first_between H.order set.items) Cycle (Ok (merged F H set.items))) K made in
        let b = unless_ok (first_between H.order set.items) Cycle (Ok (merged F H set.items)) K a.1 in
        let live = all_live H.order set.items a.0 in
        let same = is_ok (merged F H set.items) K b.1 in
        let join = subst (IsJoin set.items H) same (merged_join set.items some live b.0) in (
          subst (IsLocal set.items H) same (one_local set.items some live b.0),
          λ k s lt.
              let l = bit-below H.order.live (get_or set.items k s).0 (live k s lt) in omega (arith, l, join.count),
          join,
        )

    -- and a node that was put under another, above all that is not at or below it
    pub put_local : (n p : NodeId) → x ≡ edit.Under n p → IsLocal (n ∷ []) H K × (n.0 < length K.order.live) × IsJoin [] H K
    put_local n p is =
        let under : Hierarchy = record H { order = under_order H.order n.0 p.0 } in
        let test = is_le H.order p.0 n.0 && not (p.0 == n.0) in
        let made : changed F H (edit.Under n p) ≡ Ok K = subst (λ (y : Edit). changed F H y ≡ Ok K) is e in
        let a = unless_ok (first_unknown H.order (n ∷ p ∷ [])) UnknownNode (cond test (Err (Cycle n)) (Ok under)) K made in
        let same = (if_ok test (Cycle n) under K a.1).1 in
        let join = subst (IsJoin [] H) same (under_join n.0 p.0) in
        let l = bit-below H.order.live n.0 (all_live H.order (n ∷ p ∷ []) a.0 0 n (omega arith)) in (
          subst (IsLocal (n ∷ []) H) same (under_local H under n p.0 (under_pairs H.order fit.sized.order n.0 p.0) refl refl),
          omega (arith, l, join.count),
          join,
        )

  module _ (pt : PointsTo) (meets : MeetsEdit F pt H) (K : Hierarchy) (x : Edit) (e : changed F H x ≡ Ok K) where
    -- after a merge B4 to B7 and the last part of B8 are to be asked, and B6 at the merged nodes alone
    pub merge_after : (set : Vec NodeId Global) → x ≡ edit.Merge set → NamesSome x
        → (first_of_edit F pt K ≡ or_else (first_changed_run F pt K) (first_confused F K)) × AreApartOutside F K set.items
    merge_after set is names =
        let some : 0 < length set.items = subst NamesSome is names in
        let made : changed F H (edit.Merge set) ≡ Ok K = subst (λ (y : Edit). changed F H y ≡ Ok K) is e in
        let a = unless_ok (first_unknown H.order set.items) UnknownNode (unless (first_between H.order set.items) Cycle (Ok (merged F H set.items))) K made in
        let b = unless_ok (first_between H.order set.items) Cycle (Ok (merged F H set.items)) K a.1 in
        let join = subst (IsJoin set.items H) (is_ok (merged F H set.items) K b.1)
        (merged_join set.items some (all_live H.order set.items a.0) b.0) in
        (after_join F pt H K fit set.items join meets, bodies_after F pt H K fit set.items join meets)

    -- and after a node was put under another B6 nowhere
    pub under_after : (n p : NodeId) → x ≡ edit.Under n p
        → (first_of_edit F pt K ≡ or_else (first_changed_run F pt K) (first_confused F K)) × AreApartOutside F K []
    under_after n p is =
        let under : Hierarchy = record H { order = under_order H.order n.0 p.0 } in
        let test = is_le H.order p.0 n.0 && not (p.0 == n.0) in
        let made : changed F H (edit.Under n p) ≡ Ok K = subst (λ (y : Edit). changed F H y ≡ Ok K) is e in
        let a = unless_ok (first_unknown H.order (n ∷ p ∷ [])) UnknownNode (cond test (Err (Cycle n)) (Ok under)) K made in
        let join = subst (IsJoin [] H) (if_ok test (Cycle n) under K a.1).1 (under_join n.0 p.0) in
        (after_join F pt H K fit [] join meets, bodies_after F pt H K fit [] join meets)

    -- after a merge no need and no super call is broken but at or below the merged nodes
    pub merge_kept : IsHierarchyOf F K → (set : Vec NodeId Global) → x ≡ edit.Merge set → NamesSome x
        → AreKeptOutside F pt K set.items × All (λ s. s.0 < length K.order.live) set.items
    merge_kept fits set is names =
        let local = merge_local K x e set is names in
        (kept_outside F H K fits set.items local.0 pt local.2.count local.2.members meets, local.1)

    -- after a node was put under another none but at or below it
    pub under_kept : IsHierarchyOf F K → (n p : NodeId) → x ≡ edit.Under n p → AreKeptOutside F pt K (n ∷ []) × (n.0 < length K.order.live)
    under_kept fits n p is =
        let local = put_local K x e n p is in
        (kept_outside F H K fits (n ∷ []) local.0 pt local.2.count local.2.members meets, local.1)

    -- where only names are other ones, only B8 is to be asked
    names_left : (Z : Hierarchy) → first_unoffered F Z ≡ first_unoffered F H → first_untied F pt Z ≡ first_untied F pt H
        → first_changed_run F pt Z ≡ first_changed_run F pt H → first_of_edit F pt Z ≡ first_misnamed F Z
    names_left Z u v w =
        let a = or_else-None (first_unoffered F H) (or_else (first_untied F pt H) (or_else (first_changed_run F pt H) (first_misnamed F H))) meets in
        let b = or_else-None (first_untied F pt H) (or_else (first_changed_run F pt H) (first_misnamed F H)) a.1 in
        let c = or_else-None (first_changed_run F pt H) (first_misnamed F H) b.1 in
        rw (u ∙ a.0, v ∙ b.0, w ∙ c.0) refl

    pub type_after : (n : NodeId) (name : List ℕ) → x ≡ edit.TypeName n name → first_of_edit F pt K ≡ first_misnamed F K
    type_after n name is =
        let named : Hierarchy = record H { types = slice_set H.types n.0 name } in
        let made : changed F H (edit.TypeName n name) ≡ Ok K = subst (λ (y : Edit). changed F H y ≡ Ok K) is e in
        let a = unless_ok (first_unknown H.order (n ∷ [])) UnknownNode (Ok named) K made in
        subst (λ (z : Hierarchy). first_of_edit F pt z ≡ first_misnamed F z) (is_ok named K a.1) (names_left named refl refl refl)

    pub member_after : (c : ColId) (name : List ℕ) → x ≡ edit.MemberName c name → first_of_edit F pt K ≡ first_misnamed F K
    member_after c name is =
        let made : changed F H (edit.MemberName c name) ≡ Ok K = subst (λ (y : Edit). changed F H y ≡ Ok K) is e in
        let same = or_err (is_placed H c && not (is_mark (column_kind F c.0))) (UnknownMember c) (renamed F H c name) K made in
        subst (λ (z : Hierarchy). first_of_edit F pt z ≡ first_misnamed F z) same (names_left (renamed F H c name) refl refl refl)
