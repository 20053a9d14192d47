-- An edit makes a hierarchy of the same facts.
use Rattle.std.proofs.Common.{◌≡◌, ◌≢◌, ◌⊎◌, ℕ, zero, suc, ◌<◌, ◌==◌, ◌&&◌, ◌||◌, not, Bool, true, false, cond, List, [], ◌∷◌, length, map, get_or, set, Option, Some, None, Result, Ok, Err, All, refl, sym, ap, ◌∙◌, subst, arith, ⊎_elim, inl, inr, eq-eqb, eqb-true}
use Rattle.std.specs.Prelude.{IfSome, is_some, slice_set}
use Rattle.std.specs.Option.{option_map, option_and_then}
use Rattle.std.specs.List.{list_any}
use Rattle.std.proofs.lemmas.Bool.{cases_Bool, cases_lt, cases_eq, and_parts, and_from, or_cases, or_right, false≢true}
use Rattle.std.proofs.lemmas.Option.{same_Some}
use Rattle.std.proofs.lemmas.List.{get_or-map, get_or-set_same, get_or-set_other, length-set, length-map}
use Rattle.std.proofs.lemmas.List.FromFn.{get_or-map-range_with_len, length-map-range_with_len}
use Rattle.std.proofs.Math.ListN.{get_or-map as get_or_map_default, get_or-eq_default}
use Rattle.kaba_base.specs.declared.NodeId.{NodeId}
use Rattle.kaba_base.specs.declared.ColId.{ColId}
use Rattle.kaba_base.specs.declared.ClassId.{ClassId}
use Rattle.kaba_base.specs.Words.{first_that}
use Rattle.kaba_bits.specs.Sets.{bit}
use Rattle.kaba_bits.proofs.FirstLemmas.{cases_Option}
use Rattle.kaba_order.specs.Orders.{Ordered, is_le, is_live, IsPartialOrder, stays, merged_to, IsLeastMerged}
use Rattle.kaba_order.proofs.MergeLemmas.{among-All}
use Rattle.fact_model.specs.Items.{row_this, column_kind, column_slot, column_at}
use Rattle.fact_model.specs.InRange.{InRange, IsClass}
use Rattle.fact_model.specs.declared.facts.Facts.{Facts}
use Rattle.fact_model.specs.declared.facts.ColumnInfo.{ColumnInfo}
use Rattle.fact_model.specs.declared.facts.ColKind.TheVariants.{Is}
use Rattle.fact_model.proofs.RangeLemmas.{this-below}
use Rattle.hier_model.specs.Hierarchies.{Hierarchy, node, place_of_column, place_of_row, member_name, origin_of, is_at, is_method, IsHierarchyOf}
use Rattle.hier_model.specs.Start.{is_below_all, lowest}
use Rattle.hier_model.specs.Edits.{merged_order, under_order, dropped_order, least_of, first_between, all_there, merged_origin, merged_node, merged, is_column, moved_row, moved, is_one_slot, is_renamed, renamed_member, renamed, first_unknown, is_placed, is_mark, is_used, unless, changed, NamesSome}
use Rattle.hier_model.specs.declared.edits.Edit.{Edit}
use Rattle.hier_model.specs.declared.edits.Edit.TheVariants as edit
use Rattle.hier_model.specs.declared.edits.ChangeFault.{ChangeFault}
use Rattle.hier_model.specs.declared.edits.ChangeFault.TheVariants.{UnknownNode, UnknownMember, NotEmpty, Cycle, Memory}
use Rattle.hier_model.proofs.LowestLemmas.{all_there_all}
use Rattle.std.specs.Prelude.{IfOk}
use Rattle.kaba_base.proofs.TestLemmas.{same_truth}
use Rattle.hier_model.proofs.MergedLemmas.{none_between}
use Rattle.hier_model.proofs.EditedOrders.{under_live, under_made, dropped_made, dropped_partial, merged_made, least_among}

-- nodes of which none is the first that is not live
pub all_live : (o : Ordered) (ns : List NodeId) → first_unknown o ns ≡ None → All (λ s. is_live o s.0 ≡ true) ns
all_live o [] e = λ i d lt. absurd (omega (arith, lt))
all_live o (n ∷ ns) e =
    ⊎_elim
    (λ live. λ i d lt. elim i as (λ j. j < length (n ∷ ns) → is_live o (get_or (n ∷ ns) j d).0 ≡ true) [
      | zero ↦ λ _. live
      | suc j ↦ λ below. all_live o ns (sym (ap (λ b. cond b (first_unknown o ns) (Some n)) live) ∙ e) j d (omega (arith, below))
    ] lt)
    (λ dead. absurd (cc (sym (ap (λ b. cond b (first_unknown o ns) (Some n)) dead) ∙ e)))
    (cases_Bool (is_live o n.0))

-- the lowest of some classes is one of them
pub lowest_member : (F : Facts) (P : ClassId → Type 0) (p : ClassId → Bool) (ks : List ClassId) (k : ClassId) → first_that p ks ≡ Some k → All P ks → P k
lowest_member F P p [] k e all = absurd (cc e)
lowest_member F P p (x ∷ xs) k e all =
    ⊎_elim
    (λ t. subst P (same_Some x k (sym (ap (λ b. cond b (Some x) (first_that p xs)) t) ∙ e)) (all 0 x (omega arith)))
    (λ f. lowest_member F P p xs k (sym (ap (λ b. cond b (Some x) (first_that p xs)) f) ∙ e) (λ i d lt. all (suc i) d (omega (arith, lt))))
    (cases_Bool (p x))

module _ (F : Facts) (R : InRange F) (H : Hierarchy) (fit : IsHierarchyOf F H) where
  slot_below : (c x : ℕ) → column_slot F c ≡ Some x → c < length F.columns.items
  slot_below c x e =
      ⊎_elim (λ lt. lt)
      (λ past.
      let none : ColumnInfo = record { kind = Is; class = record { 0 = 0 }; slot = None; name = []; label = [] } in
      let gone : column_at F c ≡ none = get_or-eq_default F.columns.items none {n = c} past in
      absurd (cc (sym e ∙ ap (λ (k : ColumnInfo). k.slot) gone)))
      (cases_lt c (length F.columns.items))

  -- another order, in which the nodes live where something stands
  pub order_fits : (o : Ordered) → IsPartialOrder o → length o.live ≡ length H.order.live → ((n : ℕ) → is_live o n ≡ true → is_live H.order n ≡ true)
      → ((c : ℕ) (p : NodeId) → place_of_column H c ≡ Some p → is_live o p.0 ≡ true) → ((r : ℕ) → r < length F.rows.items → is_live o (place_of_row H r) ≡ true)
      → IsHierarchyOf F (record H { order = o })
  order_fits o po len lives columns rows = record {
    sized = record {
      order = po;
      types = fit.sized.types ∙ sym len;
      origins = fit.sized.origins
          ∙ sym len;
      columns = fit.sized.columns;
      members = fit.sized.members;
      rows = fit.sized.rows;
    };
    placed = record { columns = columns; rows = rows; these = fit.placed.these };
    names = fit.names;
    origins = λ n h. fit.origins n (lives n h);
    table = fit.table;
  }

  pub under_fits : (n p : ℕ) → is_live H.order n ≡ true → is_live H.order p ≡ true → (is_le H.order p n && not (p == n)) ≡ false
      → IsHierarchyOf F (record H { order = under_order H.order n p })
  under_fits n p nl pl none =
      let least = under_made H.order fit.sized.order n p nl pl none in
      let live = under_live H.order fit.sized.order n p in
      order_fits (under_order H.order n p) least.order (ap length live) (λ k h. subst (λ l. bit l k ≡ true) live h)
      (λ c q e. subst (λ l. bit l q.0 ≡ true) (sym live) (fit.placed.columns c q e))
      (λ r lt. subst (λ l. bit l (place_of_row H r) ≡ true) (sym live) (fit.placed.rows r lt))

  pub dropped_fits : (n : NodeId) → is_used H n ≡ false → IsHierarchyOf F (record H { order = dropped_order H.order n.0 })
  dropped_fits n unused =
      let made = dropped_made H.order fit.sized.order n.0 in
      let lives : (p : ℕ) → is_live H.order p ≡ true → p ≢ n.0 → is_live (dropped_order H.order n.0) p ≡ true =
      λ p h ne. made.live p ∙ and_from (is_live H.order p) (not (p == n.0)) h (⊎_elim (λ t. absurd (ne (eqb-true p n.0 t))) (λ f. ap not f)
      (cases_Bool (p == n.0))) in
      let none = or_false (list_any (is_at n.0) H.columns) (list_any (λ p. p.0 == n.0) H.rows) unused in
      order_fits (dropped_order H.order n.0) (dropped_partial H.order fit.sized.order n.0) made.count
      (λ k h. (and_parts (is_live H.order k) (not (k == n.0)) (sym (made.live k) ∙ h)).0)
      (λ c q e. lives q.0 (fit.placed.columns c q e) (λ same. false≢true (sym (any_at_false (is_at n.0) H.columns c None none.0 (λ x. false≢true x))
      ∙ ap (is_at n.0) e ∙ eq-eqb q.0 n.0 same)))
      (λ r lt. lives (place_of_row H r) (fit.placed.rows r lt)
      (λ same. false≢true (sym (list_any_at (λ p. p.0 == n.0) H.rows r (node 0) none.1 (omega (arith, lt, fit.sized.rows)))
      ∙ eq-eqb (place_of_row H r) n.0 same)))
    where
      or_false : (a b : Bool) → (a || b) ≡ false → (a ≡ false) × (b ≡ false)
      or_false false false h = (refl, refl)
      or_false false true h = absurd (false≢true (sym h))
      or_false true b h = absurd (false≢true (sym h))

      list_any_at : {X : Type 0} (p : X → Bool) (xs : List X) (i : ℕ) (d : X) → list_any p xs ≡ false → i < length xs → p (get_or xs i d) ≡ false
      list_any_at p [] i d h lt = absurd (omega (arith, lt))
      list_any_at p (x ∷ xs) zero d h lt = (or_false (p x) (list_any p xs) h).0
      list_any_at p (x ∷ xs) (suc i) d h lt = list_any_at p xs i d (or_false (p x) (list_any p xs) h).1 (omega (arith, lt))

      any_at_false : {X : Type 0} (p : X → Bool) (xs : List X) (i : ℕ) (d : X) → list_any p xs ≡ false → (p d ≡ true → ⊥) → p (get_or xs i d) ≡ false
      any_at_false p [] i d h none = ⊎_elim (λ t. absurd (none t)) (λ f. f) (cases_Bool (p d))
      any_at_false p (x ∷ xs) zero d h none = (or_false (p x) (list_any p xs) h).0
      any_at_false p (x ∷ xs) (suc i) d h none = any_at_false p xs i d (or_false (p x) (list_any p xs) h).1 none

  pub type_fits : (n : ℕ) (name : List ℕ) → IsHierarchyOf F (record H { types = slice_set H.types n name })
  type_fits n name = record {
    sized = record {
      order = fit.sized.order;
      types = length-set H.types n name
          ∙ fit.sized.types;
      origins = fit.sized.origins;
      columns = fit.sized.columns;
      members = fit.sized.members;
      rows = fit.sized.rows;
    };
    placed = record { columns = fit.placed.columns; rows = fit.placed.rows; these = fit.placed.these };
    names = fit.names;
    origins = fit.origins;
    table = fit.table;
  }

  one_slot : (a b : Option ℕ) (x : ℕ) → is_one_slot a b ≡ true → b ≡ Some x → a ≡ Some x
  one_slot None b x h e = absurd (false≢true h)
  one_slot (Some y) None x h e = absurd (false≢true h)
  one_slot (Some y) (Some z) x h e = ap Some (eqb-true y z h) ∙ e

  is_slot_of : (a b : Option ℕ) (x : ℕ) → a ≡ Some x → b ≡ Some x → is_one_slot a b ≡ true
  is_slot_of a b x e f = rw (e, f) (eq-eqb x x refl)

  -- columns of one slot are renamed together
  together : (c : ColId) (a b x : ℕ) → column_slot F a ≡ Some x → column_slot F b ≡ Some x → is_renamed F c a ≡ true → is_renamed F c b ≡ true
  together c a b x ea eb h =
      let own : column_slot F c.0 ≡ Some x =
      ⊎_elim (λ t. ap (column_slot F) (sym (eqb-true a c.0 t)) ∙ ea) (λ t. one_slot (column_slot F c.0) (column_slot F a) x t ea)
      (or_cases (a == c.0) (is_one_slot (column_slot F c.0) (column_slot F a)) h) in
      or_right (b == c.0) (is_one_slot (column_slot F c.0) (column_slot F b)) (is_slot_of (column_slot F c.0) (column_slot F b) x own eb)

  pub member_fits : (c : ColId) (name : List ℕ) → IsHierarchyOf F (renamed F H c name)
  member_fits c name = record {
    sized = record {
      order = fit.sized.order;
      types = fit.sized.types;
      origins = fit.sized.origins;
      columns = fit.sized.columns;
      members =
          length-map-range_with_len (renamed_member F H.members c name) 0 (length H.members) ∙ fit.sized.members;
      rows = fit.sized.rows;
    };
    placed = record { columns = fit.placed.columns; rows = fit.placed.rows; these = fit.placed.these };
    names = λ a b x ma mb ea eb. named a (slot_below a x ea) ∙ same a b x ma mb ea eb ∙ sym (named b (slot_below b x eb));
    origins = fit.origins;
    table = fit.table;
  }
    where
      named : (a : ℕ) → a < length F.columns.items → member_name (renamed F H c name) a ≡ renamed_member F H.members c name a
      named a lt = get_or-map-range_with_len (renamed_member F H.members c name) 0 (length H.members) a a []
          (omega (arith, lt, fit.sized.members)) (omega arith)

      same : (a b x : ℕ) → is_method (column_kind F a) ≡ true → is_method (column_kind F b) ≡ true → column_slot F a ≡ Some x
          → column_slot F b ≡ Some x → renamed_member F H.members c name a ≡ renamed_member F H.members c name b
      same a b x ma mb ea eb =
          let truth = same_truth (is_renamed F c a) (is_renamed F c b) (together c a b x ea eb) (together c b a x eb ea) in
          ap (λ t. cond t name (get_or H.members a [])) truth ∙ ap (cond (is_renamed F c b) name) (fit.names a b x ma mb ea eb)

  pub moved_fits : (c : ColId) (n : NodeId) → c.0 < length H.columns → is_live H.order n.0 ≡ true → IsHierarchyOf F (moved F H c n)
  moved_fits c n below live = record {
    sized = record {
      order = fit.sized.order;
      types = fit.sized.types;
      origins = fit.sized.origins;
      columns = length-set H.columns c.0 (Some n) ∙ fit.sized.columns;
      members = fit.sized.members;
      rows = length-map-range_with_len (moved_row F H.rows c n) 0 (length H.rows) ∙ fit.sized.rows;
    };
    placed = record {
      columns = λ k p e.
          ⊎_elim
          (λ same. let q : n ≡ p = same_Some n p (sym (here k same) ∙ e) in subst (λ (x : NodeId). is_live H.order x.0 ≡ true) q live)
          (λ other. fit.placed.columns k p (sym (there k other) ∙ e))
          (cases_eq k c.0);
      rows = λ r lt.
          subst (λ (x : NodeId). is_live H.order x.0 ≡ true) (sym (row_of r lt))
          (⊎_elim
          (λ t. subst (λ (x : NodeId). is_live H.order x.0 ≡ true) (sym (goes r t)) live)
          (λ f. subst (λ (x : NodeId). is_live H.order x.0 ≡ true) (sym (rests r f)) (fit.placed.rows r lt))
          (cases_Bool (is_column c (row_this F r))));
      these = λ r d e.
          let lt : r < length F.rows.items = this-below F r d e in
          let at = row_of r lt in
          ⊎_elim
          (λ same.
          let t : is_column c (row_this F r) ≡ true = ap (is_column c) e ∙ eq-eqb d.0 c.0 same in
          here d.0 same ∙ ap Some (sym (at ∙ goes r t)))
          (λ other.
          let f : is_column c (row_this F r) ≡ false = ap (is_column c) e ∙ ⊎_elim (λ t. absurd (other (eqb-true d.0 c.0 t))) (λ x. x)
          (cases_Bool (d.0 == c.0)) in
          there d.0 other ∙ fit.placed.these r d e ∙ ap Some (sym (at ∙ rests r f)))
          (cases_eq d.0 c.0);
    };
    names = fit.names;
    origins = fit.origins;
    table = fit.table;
  }
    where
      here : (k : ℕ) → k ≡ c.0 → place_of_column (moved F H c n) k ≡ Some n
      here k same = ap (λ j. get_or (set H.columns c.0 (Some n)) j None) same ∙ get_or-set_same H.columns c.0 (Some n) None below

      there : (k : ℕ) → k ≢ c.0 → place_of_column (moved F H c n) k ≡ place_of_column H k
      there k other = get_or-set_other H.columns c.0 k (Some n) None other

      row_of : (r : ℕ) → r < length F.rows.items → get_or (moved F H c n).rows r (node 0) ≡ moved_row F H.rows c n r
      row_of r lt = get_or-map-range_with_len (moved_row F H.rows c n) 0 (length H.rows) r r (node 0) (omega (arith, lt, fit.sized.rows)) (omega arith)

      goes : (r : ℕ) → is_column c (row_this F r) ≡ true → moved_row F H.rows c n r ≡ n
      goes r t = ap (λ b. cond b n (get_or H.rows r (node 0))) t

      rests : (r : ℕ) → is_column c (row_this F r) ≡ false → moved_row F H.rows c n r ≡ get_or H.rows r (node 0)
      rests r f = ap (λ b. cond b n (get_or H.rows r (node 0))) f

  -- the classes from which nodes of a list come
  origin_class : (set : List NodeId) → All (λ s. is_live H.order s.0 ≡ true) set → (o : Option ClassId)
      → merged_origin F (map (λ s. origin_of H s.0) set) ≡ o → IfSome o (IsClass F)
  origin_class set all None e = tt
  origin_class set all (Some k) e =
      let f = λ (s : NodeId). origin_of H s.0 in
      let os = map f set in
      ⊎_elim
      (λ none. absurd (cc (sym (ap (λ x. option_and_then (lowest F) x) none) ∙ e)))
      (λ some.
      lowest_member F (IsClass F) (is_below_all F some.0) some.0 k (sym (ap (λ x. option_and_then (lowest F) x) some.1) ∙ e)
      (all_there_all (IsClass F) os some.0 some.1
      (λ i d lt.
      let inside : i < length set = omega (arith, lt, length-map set f) in
      subst (λ x. IfSome x (IsClass F)) (sym (get_or-map f set i (node 0) d inside)) (fit.origins (get_or set i (node 0)).0 (all i (node 0) inside)))))
      (cases_Option (all_there os))

  pub merged_fits : (set : List NodeId) → 0 < length set → All (λ s. is_live H.order s.0 ≡ true) set → first_between H.order set ≡ None
      → IsHierarchyOf F (merged F H set)
  merged_fits set some all none =
      let o = H.order in
      let p = fit.sized.order in
      let m = least_of o set in
      let low = least_among o set some all in
      let made : IsLeastMerged o set m (merged_order o set m) = merged_made o p set m low.0 (λ s h. among-All (λ x. is_live o x ≡ true) set all s h)
      (none_between o set p none) in
      let to_live : (q : ℕ) → is_live o q ≡ true → is_live (merged_order o set m) (merged_to set m q) ≡ true =
      λ q h. made.order.lower_lives (merged_to set m q) (merged_to set m q) (made.holds q q (p.reflexive q h)) in
      let g = merged_node set m in
      let column_of : (c : ℕ) → place_of_column (merged F H set) c ≡ option_map g (place_of_column H c) = λ c. get_or_map_default (option_map g)
      H.columns c None in
      let row_of : (r : ℕ) → r < length F.rows.items → get_or (merged F H set).rows r (node 0) ≡ g (get_or H.rows r (node 0)) =
      λ r lt. get_or-map g H.rows r (node 0) (node 0) (omega (arith, lt, fit.sized.rows)) in
      let origin = merged_origin F (map (λ s. origin_of H s.0) set) in
      record {
        sized = record {
          order = made.order;
          types = fit.sized.types ∙ sym made.count;
          origins = length-set H.origins m origin ∙ fit.sized.origins ∙ sym made.count;
          columns = length-map H.columns (option_map g) ∙ fit.sized.columns;
          members = fit.sized.members;
          rows = length-map H.rows g ∙ fit.sized.rows;
        };
        placed = record {
          columns = λ c q e.
              ⊎_elim
              (λ gone. absurd (cc (sym (column_of c ∙ ap (option_map g) gone) ∙ e)))
              (λ at.
              let is : g at.0 ≡ q = same_Some (g at.0) q (sym (column_of c ∙ ap (option_map g) at.1) ∙ e) in
              subst (λ (x : NodeId). is_live (merged_order o set m) x.0 ≡ true) is (to_live at.0.0 (fit.placed.columns c at.0 at.1)))
              (cases_Option (place_of_column H c));
          rows = λ r lt. subst (λ (x : NodeId). is_live (merged_order o set m) x.0 ≡ true) (sym (row_of r lt))
              (to_live (place_of_row H r) (fit.placed.rows r lt));
          these = λ r d e. column_of d.0 ∙ ap (option_map g) (fit.placed.these r d e) ∙ ap Some (sym (row_of r (this-below F r d e)));
        };
        names = fit.names;
        origins = λ n h.
            ⊎_elim
            (λ same.
            let at : origin_of (merged F H set) n ≡ origin = ap (λ j. get_or (slice_set H.origins m origin) j None) same
            ∙ get_or-set_same H.origins m origin None (omega (arith, low.1, fit.sized.origins)) in
            subst (λ x. IfSome x (IsClass F)) (sym at) (origin_class set all origin refl))
            (λ other.
            let at : origin_of (merged F H set) n ≡ origin_of H n = get_or-set_other H.origins m n origin None other in
            subst (λ x. IfSome x (IsClass F)) (sym at) (fit.origins n (and_parts (is_live o n) (stays set m n) (sym (made.live n) ∙ h)).0))
            (cases_eq n m);
        table = fit.table;
      }

  pub unless_ok : (o : Option NodeId) (f : NodeId → ChangeFault) (r : Result Hierarchy ChangeFault) (h : Hierarchy) → unless o f r ≡ Ok h → (o ≡ None) × (r ≡ Ok h)
  unless_ok None f r h e = (refl, e)
  unless_ok (Some n) f r h e = absurd (cc e)

  pub if_ok : (b : Bool) (x : ChangeFault) (k h : Hierarchy) → cond b (Err x) (Ok k) ≡ Ok h → (b ≡ false) × (k ≡ h)
  if_ok true x k h e = absurd (cc e)
  if_ok false x k h e = (refl, cc e)

  pub or_err : (b : Bool) (x : ChangeFault) (r : Result Hierarchy ChangeFault) (h : Hierarchy) → cond b r (Err x) ≡ Ok h → (b ≡ true) × (r ≡ Ok h)
  or_err true x r h e = (refl, e)
  or_err false x r h e = absurd (cc e)

  pub is_ok : (k h : Hierarchy) → ◌≡◌ {A = Result Hierarchy ChangeFault} (Ok k) (Ok h) → k ≡ h
  is_ok k h e = cc e

  fits_as : (k h : Hierarchy) → k ≡ h → IsHierarchyOf F k → IsHierarchyOf F h
  fits_as k h e f = subst (IsHierarchyOf F) e f

  -- a column that stands somewhere is one of the list
  pub placed_below : (c : ColId) → is_placed H c ≡ true → c.0 < length H.columns
  placed_below c h =
      ⊎_elim (λ lt. lt)
      (λ past. absurd (false≢true (sym (ap is_some (get_or-eq_default H.columns None {n = c.0} past)) ∙ h)))
      (cases_lt c.0 (length H.columns))

  pub changed_fits : (e : Edit) → NamesSome e → (h : Hierarchy) → changed F H e ≡ Ok h → IsHierarchyOf F h
  changed_fits (edit.Merge set) some h e =
      let a = unless_ok (first_unknown H.order set.items) UnknownNode (unless (first_between H.order set.items) Cycle (Ok (merged F H set.items))) h e in
      let b = unless_ok (first_between H.order set.items) Cycle (Ok (merged F H set.items)) h a.1 in
      fits_as (merged F H set.items) h (is_ok _ h b.1) (merged_fits set.items some (all_live H.order set.items a.0) b.0)
  changed_fits (edit.Under n p) some h e =
      let made = record H { order = under_order H.order n.0 p.0 } in
      let test = is_le H.order p.0 n.0 && not (p.0 == n.0) in
      let a = unless_ok (first_unknown H.order (n ∷ p ∷ [])) UnknownNode (cond test (Err (Cycle n)) (Ok made)) h e in
      let b = if_ok test (Cycle n) made h a.1 in
      let live = all_live H.order (n ∷ p ∷ []) a.0 in
      fits_as made h b.1 (under_fits n.0 p.0 (live 0 n (omega arith)) (live 1 n (omega arith)) b.0)
  changed_fits (edit.Move c n) some h e =
      let a = or_err (is_placed H c) (UnknownMember c) (unless (first_unknown H.order (n ∷ [])) UnknownNode (Ok (moved F H c n))) h e in
      let b = unless_ok (first_unknown H.order (n ∷ [])) UnknownNode (Ok (moved F H c n)) h a.1 in
      fits_as (moved F H c n) h (is_ok _ h b.1) (moved_fits c n (placed_below c a.0) (all_live H.order (n ∷ []) b.0 0 n (omega arith)))
  changed_fits (edit.TypeName n name) some h e =
      let made = record H { types = slice_set H.types n.0 name } in
      let a = unless_ok (first_unknown H.order (n ∷ [])) UnknownNode (Ok made) h e in
      fits_as made h (is_ok made h a.1) (type_fits n.0 name)
  changed_fits (edit.MemberName c name) some h e =
      let a = or_err (is_placed H c && not (is_mark (column_kind F c.0))) (UnknownMember c) (Ok (renamed F H c name)) h e in
      fits_as (renamed F H c name) h (is_ok _ h a.1) (member_fits c name)
  changed_fits (edit.Drop n) some h e =
      let made = record H { order = dropped_order H.order n.0 } in
      let a = unless_ok (first_unknown H.order (n ∷ [])) UnknownNode (cond (is_used H n) (Err (NotEmpty n)) (Ok made)) h e in
      let b = if_ok (is_used H n) (NotEmpty n) made h a.1 in
      fits_as made h b.1 (dropped_fits n b.0)

  pub fits_of : (e : Edit) → NamesSome e → (r : Result Hierarchy ChangeFault) → (r ≡ Err Memory) ⊎ (r ≡ changed F H e) → IfOk r (IsHierarchyOf F)
  fits_of e some (Err x) v = tt
  fits_of e some (Ok h) (inl x) = absurd (cc x)
  fits_of e some (Ok h) (inr y) = changed_fits e some h (sym y)
