-- Facts that are the same, with sets that are the same: the first instance against each obligation is the same.
use Rattle.std.proofs.Common.{◌≡◌, ℕ, ◌==◌, ◌&&◌, ◌||◌, max, not, Bool, false, List, length, Option, Some, None, refl, sym, ap, ◌∙◌}
use Rattle.std.specs.Prelude.{nat_lt, cond, option_and_then}
use Rattle.std.specs.Option.{option_map, option_map_or}
use Rattle.std.specs.List.{list_any}
use Rattle.std.specs.Str.{bytes_eq}
use Rattle.kaba_base.specs.Words.{is_name}
use Rattle.kaba_bits.specs.Sets.{bit, row, or_else, first_below, when}
use Rattle.kaba_order.specs.Orders.{is_le, is_live, differ}
use Rattle.fact_model.specs.declared.facts.Facts.{Facts}
use Rattle.fact_model.specs.declared.facts.MakerNames.{MakerNames}
use Rattle.fact_model.specs.declared.facts.StoreInfo.{StoreInfo}
use Rattle.fact_model.specs.declared.facts.TestInfo.{TestInfo}
use Rattle.fact_model.specs.declared.sets.PointsTo.{PointsTo}
use Rattle.fact_model.specs.Items.{site_class, row_class}
use Rattle.fact_model.specs.Classes.{is_def, below, finds}
use Rattle.hier_model.specs.Hierarchies.{Hierarchy, place_of_row, stands_at, is_offered, type_name, member_name, any_below}
use Rattle.hier_model.specs.Names.{is_field}
use Rattle.hier_model.specs.Edits.{is_one_slot}
use Rattle.hier_rules.specs.declared.broken.Rule.TheVariants.{B3, B4, B5, B6, B7, B8, B9}
use Rattle.hier_rules.specs.Asked.{is_pair, is_tie, is_super, is_called, bound_of, slots_of, are_two_slots, is_other_body, is_element, has_array, is_test_at, is_store_at, is_tested, is_stored, meets, places_of}
use Rattle.hier_rules.specs.Obligations.{row_le, column_le, is_above, unoffered, first_unoffered, first_untied, wrong_body, is_between, wrong_super, first_wrong_super, is_body_at, two_bodies, first_two_bodies, is_class_above, unchained, first_unchained, wrong_need, first_wrong_need, wrong_outcome, first_wrong_outcome, untied, unheld}
use Rattle.hier_rules.specs.Names.{is_member, known_names, is_reserved, is_variable, method_slot, unwritable_type, first_unwritable, is_other_type, taken_type, first_taken_type, is_type, taken_field, first_taken_field, clash, confused, first_confused, first_misnamed}
use Rattle.hier_rules.specs.First.{first_changed_run, first_of_edit}
use Rattle.hier_rules.specs.Instances.{of_both, of_row, of_column, of_node, of_three}
use Rattle.flow_rules.specs.Lists.{PlainCall}
use Rattle.flow_rules.specs.Facts.{ClassFacts, class_seen, call_seen, PlainMakers, makers_seen}
use Rattle.flow_program.specs.Same.{AreSameFacts}
use Rattle.kaba_top.proofs.SameLists.{any_set, bound_set, any_seen, bound_seen}
use Rattle.kaba_top.proofs.SameFacts.{site_at_is, site_class_is, site_row_is, row_class_is, column_class_is, kind_is, slot_is, below_is, finds_is}
use Rattle.kaba_top.proofs.SameHierarchies.{class_node_is}

-- what is asked of the names that are fixed is asked of them as they are seen
asked_seen : (f : PlainMakers → Bool) (o : Option MakerNames) → option_map_or (λ m. f (makers_seen m)) o false
    ≡ option_map_or f (option_map makers_seen o) false
asked_seen f None = refl
asked_seen f (Some m) = refl

module _ {F G : Facts} (s : AreSameFacts F G) where
  -- ---- what the obligations ask of the facts

  tie_is : (l u : ℕ) → is_tie F l u ≡ is_tie G l u
  tie_is l u = any_set (λ t. is_pair t.lower.0 t.upper.0 l u) F.ties.items G.ties.items s.ties

  super_is : (r c : ℕ) → is_super F r c ≡ is_super G r c
  super_is r c = any_set (λ x. is_pair x.row.0 x.column.0 r c) F.supers.items G.supers.items s.supers

  slots_are : slots_of F ≡ slots_of G
  slots_are =
      bound_seen call_seen (λ (k : PlainCall). k.slot) F.calls.items ∙ ap (bound_of (λ (k : PlainCall). k.slot)) s.calls
      ∙ sym (bound_seen call_seen (λ (k : PlainCall). k.slot) G.calls.items)

  other_body_is : (d e : ℕ) → is_other_body F d e ≡ is_other_body G d e
  other_body_is d e = λ i. not (e == d) && is_def (kind_is s e i) && is_one_slot (slot_is s d i) (slot_is s e i)

  places_are : places_of F ≡ places_of G
  places_are =
      λ i. max (bound_of (λ (x : TestInfo). x.place.at) (s.tests i))
      (bound_set (λ (x : StoreInfo). x.place.at) F.stores.items G.stores.items s.stores i)

  static_is : (name : List ℕ) → list_any (λ k. k.holder && bytes_eq k.name name) F.classes.items ≡ list_any (λ k. k.holder && bytes_eq k.name name) G.classes.items
  static_is name =
      any_seen class_seen (λ (k : ClassFacts). k.holder && bytes_eq k.name name) F.classes.items
      ∙ ap (list_any (λ (k : ClassFacts). k.holder && bytes_eq k.name name)) s.classes
      ∙ sym (any_seen class_seen (λ (k : ClassFacts). k.holder && bytes_eq k.name name) G.classes.items)

  makers_is : (f : PlainMakers → Bool) → option_map_or (λ m. f (makers_seen m)) F.makers false ≡ option_map_or (λ m. f (makers_seen m)) G.makers false
  makers_is f = asked_seen f F.makers ∙ ap (λ z. option_map_or f z false) s.makers ∙ sym (asked_seen f G.makers)

  reserved_is : (name : List ℕ) → is_reserved F name ≡ is_reserved G name
  reserved_is name =
      λ i. (static_is name i || makers_is (λ m. bytes_eq m.holder name) i) || list_any (λ k. bytes_eq k name) known_names

  variable_is : (name : List ℕ) → is_variable F name ≡ is_variable G name
  variable_is name =
      λ i. any_set (λ v. bytes_eq v name) F.vars.items G.vars.items s.vars i || makers_is (λ m. bytes_eq m.local name) i

  -- ---- obligations without sets

  module _ (H : Hierarchy) where
    unoffered_is : first_unoffered F H ≡ first_unoffered G H
    unoffered_is = λ i. first_below (length (s.rows i)) (λ r. first_below (length (s.columns i)) (unoffered F H r))

    untied_is : (l u : ℕ) → untied F H l u ≡ untied G H l u
    untied_is l u = λ i. when (tie_is l u i && not (row_le H l u)) (of_row B3 (place_of_row H l) (place_of_row H u) l)

    wrong_body_is : (k d : ℕ) → wrong_body F H k d ≡ wrong_body G H k d
    wrong_body_is k d =
        λ i. when
        (not (is_offered H (place_of_row H (site_row_is s k i)) d)
        || any_below (length (s.columns i)) (λ e. other_body_is d e i && is_offered H (place_of_row H (site_row_is s k i)) e && column_le H e d))
        (of_both B4 (place_of_row H (site_row_is s k i)) (site_row_is s k i) d)

    between_is : (r d e : ℕ) → is_between F H r d e ≡ is_between G H r d e
    between_is r d e =
        λ i. other_body_is d e i && is_above H (place_of_row H r) e && (column_le H e d || (column_class_is s e i == row_class_is s r i))

    wrong_super_is : (r c : ℕ) → wrong_super F H r c ≡ wrong_super G H r c
    wrong_super_is r c =
        λ i. when (super_is r c i && (not (is_above H (place_of_row H r) c) || any_below (length (s.columns i)) (λ e. between_is r c e i)))
        (of_both B5 (place_of_row H r) r c)

    wrong_supers_are : first_wrong_super F H ≡ first_wrong_super G H
    wrong_supers_are = λ i. first_below (length (s.rows i)) (λ r. first_below (length (s.columns i)) (λ c. wrong_super_is r c i))

    body_at_is : (n c : ℕ) → is_body_at F H n c ≡ is_body_at G H n c
    body_at_is n c = λ i. stands_at H n c && is_def (kind_is s c i)

    two_bodies_is : (n c d : ℕ) → two_bodies F H n c d ≡ two_bodies G H n c d
    two_bodies_is n c d =
        λ i. when (body_at_is n c i && (body_at_is n d i && nat_lt c d && is_one_slot (slot_is s c i) (slot_is s d i))) (of_column B6 n d)

    two_bodies_are : first_two_bodies F H ≡ first_two_bodies G H
    two_bodies_are =
        λ i. first_below (length H.order.live) (λ n. first_below (length (s.columns i)) (λ c. first_below (length (s.columns i)) (λ d. two_bodies_is n c d i)))

    class_above_is : (n x : ℕ) → is_class_above F H n x ≡ is_class_above G H n x
    class_above_is n x = λ i. class_node_is s H n i && class_node_is s H x i && is_le H.order n x

    unchained_is : (n x y : ℕ) → unchained F H n x y ≡ unchained G H n x y
    unchained_is n x y =
        λ i. when (class_above_is n x i && (class_above_is n y i && nat_lt x y && not (is_le H.order x y) && not (is_le H.order y x))) (of_three B9 n x y)

    pub unchained_are : first_unchained F H ≡ first_unchained G H
    unchained_are =
        λ i. first_below (length H.order.live) (λ n. first_below (length H.order.live) (λ x. first_below (length H.order.live) (λ y. unchained_is n x y i)))

    -- ---- names

    unwritables_are : first_unwritable F H ≡ first_unwritable G H
    unwritables_are =
        λ i. first_below (length H.order.live) (λ n. or_else (unwritable_type F H n)
        (first_below (length (s.columns i)) (λ c. when (stands_at H n c && is_member (kind_is s c i) && not (is_name (member_name H c))) (of_column B8 n c))))

    taken_type_is : (n : ℕ) → taken_type F H n ≡ taken_type G H n
    taken_type_is n =
        λ i. when (is_live H.order n
        && (is_other_type F H n (type_name H n) || reserved_is (type_name H n) i || variable_is (type_name H n) i)) (of_node B8 n)

    taken_types_are : first_taken_type F H ≡ first_taken_type G H
    taken_types_are = λ i. first_below (length H.order.live) (λ n. taken_type_is n i)

    taken_field_is : (n c : ℕ) → taken_field F H n c ≡ taken_field G H n c
    taken_field_is n c =
        λ i. when (stands_at H n c && is_field (kind_is s c i) && (is_type F H (member_name H c) || reserved_is (member_name H c) i)) (of_column B8 n c)

    taken_fields_are : first_taken_field F H ≡ first_taken_field G H
    taken_fields_are = λ i. first_below (length H.order.live) (λ n. first_below (length (s.columns i)) (λ c. taken_field_is n c i))

    clash_is : (c d : ℕ) → clash F H c d ≡ clash G H c d
    clash_is c d =
        λ i. bytes_eq (member_name H c) (member_name H d)
        && ((is_field (kind_is s c i) && is_field (kind_is s d i)) || are_two_slots (method_slot (kind_is s c i) (slot_is s c i))
        (method_slot (kind_is s d i) (slot_is s d i)))

    confused_is : (n d : ℕ) → confused F H n d ≡ confused G H n d
    confused_is n d = λ i. when (is_offered H n d && any_below d (λ c. is_offered H n c && clash_is c d i)) (of_column B8 n d)

    confused_are : first_confused F H ≡ first_confused G H
    confused_are = λ i. first_below (length H.order.live) (λ n. first_below (length (s.columns i)) (λ d. confused_is n d i))

    misnamed_are : first_misnamed F H ≡ first_misnamed G H
    misnamed_are = λ i. or_else (unwritables_are i) (or_else (taken_types_are i) (or_else (taken_fields_are i) (confused_are i)))

  -- ---- obligations with sets

  module _ (t u : PointsTo) (points : t.points.items ≡ u.points.items) (rows : t.rows.items ≡ u.rows.items) where
    called_is : (k x : ℕ) → is_called F t k x ≡ is_called G u k x
    called_is k x =
        any_seen call_seen (λ (c : PlainCall). bit (row t.points.items c.receiver) k && (c.slot == x)) F.calls.items
        ∙ (λ i. list_any (λ (c : PlainCall). bit (row (points i) c.receiver) k && (c.slot == x)) (s.calls i))
        ∙ sym (any_seen call_seen (λ (c : PlainCall). bit (row u.points.items c.receiver) k && (c.slot == x)) G.calls.items)

    array_is : (base r : ℕ) → has_array F t base r ≡ has_array G u base r
    array_is base r =
        λ i. any_below (length (s.sites i)) (λ a. bit (row (points i) base) a && nat_lt 0 (site_at_is s a i).dim && (site_row_is s a i == r))

    store_at_is : (p r : ℕ) (x : StoreInfo) → is_store_at F t p r x ≡ is_store_at G u p r x
    store_at_is p r x = λ i. is_element x.column && (x.place.at == p) && array_is x.base r i

    tested_is : (p r k : ℕ) → is_tested F t p r k ≡ is_tested G u p r k
    tested_is p r k = λ i. list_any (λ (x : TestInfo). is_test_at p r x && bit (row (points i) x.from) k) (s.tests i)

    stored_is : (p r k : ℕ) → is_stored F t p r k ≡ is_stored G u p r k
    stored_is p r k =
        (λ i. list_any (λ (x : StoreInfo). store_at_is p r x i && bit (row (points i) x.value) k) F.stores.items)
        ∙ any_set (λ (x : StoreInfo). is_store_at G u p r x && bit (row u.points.items x.value) k) F.stores.items G.stores.items s.stores

    meets_is : (p r k : ℕ) → meets F t p r k ≡ meets G u p r k
    meets_is p r k = λ i. tested_is p r k i || stored_is p r k i

    module _ (H : Hierarchy) where
      unheld_is : (o v : ℕ) → unheld F t H o v ≡ unheld G u H o v
      unheld_is o v =
          λ i. when (bit (row (rows i) v) o && not (row_le H (site_row_is s o i) v))
          (of_row B3 (place_of_row H (site_row_is s o i)) (place_of_row H v) (site_row_is s o i))

      untied_are : first_untied F t H ≡ first_untied G u H
      untied_are =
          λ i. or_else (first_below (length (s.rows i)) (λ l. first_below (length (s.rows i)) (λ v. untied_is H l v i)))
          (first_below (length (s.sites i)) (λ o. first_below (length (s.rows i)) (λ v. unheld_is o v i)))

      found_is : (k x : ℕ) → finds F (site_class F k) x ≡ finds G (site_class G k) x
      found_is k x = ap (λ z. finds F z x) (site_class_is s k) ∙ finds_is s (site_class G k) x

      wrong_need_is : (k x : ℕ) → wrong_need F t H k x ≡ wrong_need G u H k x
      wrong_need_is k x = λ i. cond (called_is k x i) (option_and_then (λ d. wrong_body_is H k d i) (found_is k x i)) None

      wrong_needs_are : first_wrong_need F t H ≡ first_wrong_need G u H
      wrong_needs_are = λ i. first_below (length (s.sites i)) (λ k. first_below (slots_are i) (λ x. wrong_need_is k x i))

      fits_is : (k r : ℕ) → below F (site_class F k) (row_class F r) ≡ below G (site_class G k) (row_class G r)
      fits_is k r = (λ i. below F (site_class_is s k i) (row_class_is s r i)) ∙ below_is s (site_class G k) (row_class G r)

      wrong_outcome_is : (p r k : ℕ) → wrong_outcome F t H p r k ≡ wrong_outcome G u H p r k
      wrong_outcome_is p r k =
          λ i. when (meets_is p r k i && differ (row_le H (site_row_is s k i) r) (fits_is k r i))
          (of_row B7 (place_of_row H (site_row_is s k i)) (place_of_row H r) (site_row_is s k i))

      wrong_outcomes_are : first_wrong_outcome F t H ≡ first_wrong_outcome G u H
      wrong_outcomes_are =
          λ i. first_below (places_are i) (λ p. first_below (length (s.rows i)) (λ r. first_below (length (s.sites i)) (λ k. wrong_outcome_is p r k i)))

      changed_runs_are : first_changed_run F t H ≡ first_changed_run G u H
      changed_runs_are = λ i. or_else (wrong_needs_are i) (or_else (wrong_supers_are H i) (or_else (two_bodies_are H i) (wrong_outcomes_are i)))

      pub of_edit_are : first_of_edit F t H ≡ first_of_edit G u H
      of_edit_are = λ i. or_else (unoffered_is H i) (or_else (untied_are i) (or_else (changed_runs_are i) (misnamed_are H i)))
