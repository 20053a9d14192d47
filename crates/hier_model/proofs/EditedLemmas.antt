-- What no edit changes.
use Rattle.std.proofs.Common.{◌≡◌, ◌≢◌, ℕ, ◌<◌, ◌==◌, ◌&&◌, not, true, false, List, [], ◌∷◌, length, map, set, Some, None, Ok, Err, cond, refl, sym, ap, ◌∙◌, subst, arith}
use Rattle.std.specs.Prelude.{is_some, slice_set}
use Rattle.std.specs.Option.{option_map}
use Rattle.std.proofs.lemmas.Bool.{and_parts, false≢true}
use Rattle.std.proofs.lemmas.List.{get_or-set_other, length-set}
use Rattle.std.proofs.Math.ListN.{get_or-map as get_or_map_default}
use Rattle.kaba_base.specs.declared.NodeId.{NodeId}
use Rattle.kaba_base.specs.declared.ColId.{ColId}
use Rattle.kaba_bits.specs.Sets.{bit}
use Rattle.kaba_order.specs.Orders.{Ordered, is_le, is_live, stays}
use Rattle.kaba_order.proofs.MergeLemmas.{among-All}
use Rattle.fact_model.specs.Items.{column_kind}
use Rattle.fact_model.specs.InRange.{InRange}
use Rattle.fact_model.specs.declared.facts.Facts.{Facts}
use Rattle.hier_model.specs.Hierarchies.{Hierarchy, place_of_column, type_name, origin_of, IsHierarchyOf}
use Rattle.hier_model.specs.Edits.{under_order, dropped_order, least_of, first_between, merged_node, merged_origin, merged, moved, renamed, first_unknown, is_placed, is_mark, is_used, unless, changed, NamesSome}
use Rattle.hier_model.specs.Alike.{AreAlike}
use Rattle.hier_model.specs.Differences.{IsOneEdit}
use Rattle.hier_model.specs.declared.edits.Edit.{Edit}
use Rattle.hier_model.specs.declared.edits.Edit.TheVariants as edit
use Rattle.hier_model.specs.declared.edits.ChangeFault.TheVariants.{UnknownNode, UnknownMember, NotEmpty, Cycle}
use Rattle.hier_model.proofs.MergedLemmas.{none_between}
use Rattle.hier_model.proofs.EditedOrders.{under_live, dropped_made, merged_made, least_among}
use Rattle.hier_model.proofs.FitLemmas.{all_live, unless_ok, if_ok, or_err, is_ok, changed_fits}

-- an edit keeps the table, and each slot of a node that is live in neither hierarchy; a node or a column that is dead stays so
pub record IsSameOutside (old new : Hierarchy) : Type 0 where
  pub lives : (n : ℕ) → is_live new.order n ≡ true → is_live old.order n ≡ true
  pub dead : (c : ℕ) → place_of_column old c ≡ None → place_of_column new c ≡ None
  pub types : (n : ℕ) → is_live old.order n ≡ false → type_name new n ≡ type_name old n
  pub origins : (n : ℕ) → is_live old.order n ≡ false → origin_of new n ≡ origin_of old n
  pub type_count : length new.types ≡ length old.types
  pub table : new.table ≡ old.table

module _ (F : Facts) (R : InRange F) (H : Hierarchy) (fit : IsHierarchyOf F H) where
  outside_as : (k h : Hierarchy) → k ≡ h → IsSameOutside H k → IsSameOutside H h
  outside_as k h e f = subst (IsSameOutside H) e f

  -- another order alone
  order_outside : (o : Ordered) → ((n : ℕ) → is_live o n ≡ true → is_live H.order n ≡ true) → IsSameOutside H (record H { order = o })
  order_outside o lives = record { lives = lives; dead = λ c e. e; types = λ n e. refl; origins = λ n e. refl; type_count = refl; table = refl }

  -- a live node is not one that is not
  apart : (n m : ℕ) → is_live H.order n ≡ true → is_live H.order m ≡ false → m ≢ n
  apart n m live dead e = false≢true (sym dead ∙ ap (is_live H.order) e ∙ live)

  type_outside : (n : ℕ) (name : List ℕ) → is_live H.order n ≡ true → IsSameOutside H (record H { types = slice_set H.types n name })
  type_outside n name live = record {
    lives = λ k h. h;
    dead = λ c e. e;
    types = λ k e. get_or-set_other H.types n k name [] (apart n k live e);
    origins = λ k e. refl;
    type_count = length-set H.types n name;
    table = refl;
  }

  moved_outside : (c : ColId) (n : NodeId) → is_placed H c ≡ true → IsSameOutside H (moved F H c n)
  moved_outside c n placed = record {
    lives = λ k h. h;
    dead = λ d e. get_or-set_other H.columns c.0 d (Some n) None
        (λ same. false≢true (sym (ap is_some (sym (ap (place_of_column H) same) ∙ e)) ∙ placed)) ∙ e;
    types = λ k e. refl;
    origins = λ k e. refl;
    type_count = refl;
    table = refl;
  }

  merged_outside : (set : List NodeId) → 0 < length set → first_unknown H.order set ≡ None → first_between H.order set ≡ None
      → IsSameOutside H (merged F H set)
  merged_outside set some known none =
      let o = H.order in
      let p = fit.sized.order in
      let m = least_of o set in
      let all = all_live o set known in
      let low = least_among o set some all in
      let made = merged_made o p set m low.0 (λ s h. among-All (λ x. is_live o x ≡ true) set all s h) (none_between o set p none) in
      record {
        lives = λ k h. (and_parts (is_live o k) (stays set m k) (sym (made.live k) ∙ h)).0;
        dead = λ c e. get_or_map_default (option_map (merged_node set m)) H.columns c None ∙ ap (option_map (merged_node set m)) e;
        types = λ k e. refl;
        origins = λ k e. get_or-set_other H.origins m k (merged_origin F (map (λ s. origin_of H s.0) set)) None
            (apart m k (among-All (λ x. is_live o x ≡ true) set all m low.0) e);
        type_count = refl;
        table = refl;
      }

  pub changed_outside : (e : Edit) → NamesSome e → (h : Hierarchy) → changed F H e ≡ Ok h → IsSameOutside H h
  changed_outside (edit.Merge set) some h e =
      let a = unless_ok F R H fit (first_unknown H.order set.items) UnknownNode
      (unless (first_between H.order set.items) Cycle (Ok (merged F H set.items))) h e in
      let b = unless_ok F R H fit (first_between H.order set.items) Cycle (Ok (merged F H set.items)) h a.1 in
      outside_as (merged F H set.items) h (is_ok F R H fit _ h b.1) (merged_outside set.items some a.0 b.0)
  changed_outside (edit.Under n p) some h e =
      let made = record H { order = under_order H.order n.0 p.0 } in
      let test = is_le H.order p.0 n.0 && not (p.0 == n.0) in
      let a = unless_ok F R H fit (first_unknown H.order (n ∷ p ∷ [])) UnknownNode (cond test (Err (Cycle n)) (Ok made)) h e in
      let b = if_ok F R H fit test (Cycle n) made h a.1 in
      outside_as made h b.1 (order_outside (under_order H.order n.0 p.0)
      (λ k l. subst (λ x. bit x k ≡ true) (under_live H.order fit.sized.order n.0 p.0) l))
  changed_outside (edit.Move c n) some h e =
      let a = or_err F R H fit (is_placed H c) (UnknownMember c) (unless (first_unknown H.order (n ∷ [])) UnknownNode (Ok (moved F H c n))) h e in
      let b = unless_ok F R H fit (first_unknown H.order (n ∷ [])) UnknownNode (Ok (moved F H c n)) h a.1 in
      outside_as (moved F H c n) h (is_ok F R H fit _ h b.1) (moved_outside c n a.0)
  changed_outside (edit.TypeName n name) some h e =
      let made = record H { types = slice_set H.types n.0 name } in
      let a = unless_ok F R H fit (first_unknown H.order (n ∷ [])) UnknownNode (Ok made) h e in
      outside_as made h (is_ok F R H fit made h a.1) (type_outside n.0 name (all_live H.order (n ∷ []) a.0 0 n (omega arith)))
  changed_outside (edit.MemberName c name) some h e =
      let a = or_err F R H fit (is_placed H c && not (is_mark (column_kind F c.0))) (UnknownMember c) (Ok (renamed F H c name)) h e in
      outside_as (renamed F H c name) h (is_ok F R H fit _ h a.1)
      (record { lives = λ k l. l; dead = λ d x. x; types = λ k x. refl; origins = λ k x. refl; type_count = refl; table = refl })
  changed_outside (edit.Drop n) some h e =
      let made = record H { order = dropped_order H.order n.0 } in
      let a = unless_ok F R H fit (first_unknown H.order (n ∷ [])) UnknownNode (cond (is_used H n) (Err (NotEmpty n)) (Ok made)) h e in
      let b = if_ok F R H fit (is_used H n) (NotEmpty n) made h a.1 in
      outside_as made h b.1 (order_outside (dropped_order H.order n.0)
      (λ k l. (and_parts (is_live H.order k) (not (k == n.0)) (sym ((dropped_made H.order fit.sized.order n.0).live k) ∙ l)).0))

module _ (old new : Hierarchy) (was : IsOneEdit old new) where
  pub edited_outside : IsSameOutside old new
  edited_outside = changed_outside was.facts was.range old was.fits was.edit was.some new was.made

  pub edited_fits : IsHierarchyOf was.facts new
  edited_fits = changed_fits was.facts was.range old was.fits was.edit was.some new was.made

  pub edited_alike : AreAlike old new
  edited_alike =
      let a = was.fits.sized in
      let b = edited_fits.sized in
      let count : length new.order.live ≡ length old.order.live = sym b.types ∙ (edited_outside.type_count ∙ a.types) in
      record {
        old_order = a.order;
        new_order = b.order;
        count = count;
        types = a.types;
        new_types = edited_outside.type_count;
        origins = a.origins;
        new_origins = b.origins ∙ (count ∙ sym a.origins);
        columns = b.columns ∙ sym a.columns;
        few_columns = omega (arith, a.columns, was.range.counts.columns);
        rows = b.rows ∙ sym a.rows;
        few_rows = omega (arith, a.rows, was.range.counts.rows);
        members = b.members ∙ sym a.members;
        few_members = omega (arith, a.members, was.range.counts.columns);
      }
