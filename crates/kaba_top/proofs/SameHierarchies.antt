-- Facts that are the same: what they give of a hierarchy, its start and its edits is the same.
use Rattle.std.proofs.Common.{◌≡◌, ℕ, zero, suc, ◌&&◌, ◌||◌, Bool, not, List, [], ◌∷◌, ◌++◌, length, map, Option, Some, None, Ok, Err, refl, ap, ◌∙◌, if◌then◌else◌}
use Rattle.std.specs.Prelude.{◌==◌, filter, option_and_then, slice_index_or, slice_set, unwrap_or}
use Rattle.std.specs.Option.{option_map}
use Rattle.std.specs.List.{list_all, range_with_len}
use Rattle.std.specs.Str.{bytes_eq}
use Rattle.std.specs.Fmt.{decimal}
use Rattle.kaba_base.specs.declared.NodeId.{NodeId}
use Rattle.kaba_base.specs.declared.ColId.{ColId}
use Rattle.kaba_base.specs.declared.ClassId.{ClassId}
use Rattle.kaba_base.specs.Words.{first_that}
use Rattle.kaba_bits.specs.Sets.{rising}
use Rattle.kaba_order.specs.Orders.{is_le}
use Rattle.fact_model.specs.declared.facts.Facts.{Facts}
use Rattle.fact_model.specs.Items.{column_class}
use Rattle.fact_model.specs.Classes.{below}
use Rattle.fact_model.specs.InOrder.{name_of}
use Rattle.fact_model.specs.Concepts.{Pair}
use Rattle.hier_model.specs.Hierarchies.{Hierarchy, node, place_of_row, origin_of, is_offered, any_below, is_of_class, has_class_member, has_object, is_class_node}
use Rattle.fact_model.specs.FreeNames.{free_name}
use Rattle.hier_model.specs.Names.{is_field, is_strictly_above, is_namesake_above, is_shared, class_name, joined, named_member, member_names, naming_class, named_type, type_names}
use Rattle.hier_model.specs.Start.{order_of, column_place, row_place, lowest, owners, start_origin, origins_of, start_of}
use Rattle.hier_model.specs.Edits.{merged_order, least_of, first_between, all_there, merged_origin, merged_node, merged, is_column, moved, is_one_slot, renamed, first_unknown, is_placed, is_mark, unless, changed}
use Rattle.hier_model.specs.declared.edits.Edit.{Edit}
use Rattle.hier_model.specs.declared.edits.Edit.TheVariants as edit
use Rattle.hier_model.specs.declared.edits.ChangeFault.TheVariants.{UnknownNode, UnknownMember, Cycle}
use Rattle.flow_rules.specs.Facts.{ClassFacts}
use Rattle.flow_program.specs.Same.{AreSameFacts}
use Rattle.kaba_top.proofs.SameFacts.{site_at_is, site_row_is, column_at_is, column_class_is, row_this_is, kind_is, slot_is, by_class, interface_is, below_is}

module _ {F G : Facts} (s : AreSameFacts F G) where
  -- ---- names

  name_is : (c : ℕ) → name_of F c ≡ name_of G c
  name_is c = λ i. (column_at_is s c i).name

  pub class_name_is : (a : ℕ) → class_name F a ≡ class_name G a
  class_name_is a = by_class s (λ (k : ClassFacts). k.name) [] a

  owner_name_is : (c : ℕ) → class_name F (column_class F c) ≡ class_name G (column_class G c)
  owner_name_is c = ap (class_name F) (column_class_is s c) ∙ class_name_is (column_class G c)

  owners_below : (c d : ℕ) → below F (column_class F c) (column_class F d) ≡ below G (column_class G c) (column_class G d)
  owners_below c d = (λ i. below F (column_class_is s c i) (column_class_is s d i)) ∙ below_is s (column_class G c) (column_class G d)

  above_is : (c d : ℕ) → is_strictly_above F (column_class F c) (column_class F d) ≡ is_strictly_above G (column_class G c) (column_class G d)
  above_is c d = λ i. not (column_class_is s c i == column_class_is s d i) && owners_below c d i

  namesake_is : (c d : ℕ) → is_namesake_above F c d ≡ is_namesake_above G c d
  namesake_is c d = λ i. is_field (kind_is s d i) && bytes_eq (name_is c i) (name_is d i) && above_is c d i

  shared_is : (c : ℕ) → is_shared F c ≡ is_shared G c
  shared_is c = λ i. is_field (kind_is s c i) && any_below (length (s.columns i)) (λ d. namesake_is c d i)

  named_is : (given other : List (List ℕ)) → given ≡ other → (c : ℕ) → named_member F given c ≡ named_member G other c
  named_is given other e c = λ i. if shared_is c i then free_name (s.words i ++ e i) (joined (name_is c i) (owner_name_is c i)) else name_is c i

  member_names_is : (n : ℕ) → member_names F n ≡ member_names G n
  member_names_is zero = refl
  member_names_is (suc n) = λ i. member_names_is n i ++ named_is (member_names F n) (member_names G n) (member_names_is n) n i ∷ []

  members_is : member_names F (length F.columns.items) ≡ member_names G (length G.columns.items)
  members_is = (λ i. member_names F (length (s.columns i))) ∙ member_names_is (length G.columns.items)

  naming_is : (origins others : List (Option ClassId)) → origins ≡ others → (n : ℕ)
      → class_name F (naming_class (slice_index_or origins n None)) ≡ class_name G (naming_class (slice_index_or others n None))
  naming_is origins others e n =
      ap (λ z. class_name F (naming_class (slice_index_or z n None))) e ∙ class_name_is (naming_class (slice_index_or others n None))

  typed_is : (origins others : List (Option ClassId)) → origins ≡ others → (given given2 : List (List ℕ)) → given ≡ given2 → (n : ℕ)
      → named_type F origins given n ≡ named_type G others given2 n
  typed_is origins others e given given2 q n = λ i. free_name (s.words i ++ q i) (joined (naming_is origins others e n i) (decimal n))

  type_names_is : (members members2 : List (List ℕ)) → members ≡ members2 → (origins others : List (Option ClassId)) → origins ≡ others → (n : ℕ)
      → type_names F members origins n ≡ type_names G members2 others n
  type_names_is members members2 m origins others e zero = refl
  type_names_is members members2 m origins others e (suc n) =
      λ i. let before = type_names_is members members2 m origins others e n i in
      before ++ typed_is origins others e (members ++ type_names F members origins n) (members2 ++ type_names G members2 others n)
      (λ j. m j ++ type_names_is members members2 m origins others e n j) n i ∷ []

  -- ---- the start

  lowest_is : (classes : List ClassId) → lowest F classes ≡ lowest G classes
  lowest_is classes = λ i. first_that (λ k. list_all (λ l. below_is s k.0 l.0 i) classes) classes

  owners_is : (columns : List Bool) → owners F columns ≡ owners G columns
  owners_is columns = λ i. filter (λ (k : ClassId). not (interface_is s k.0 i)) (map (λ c. (column_at_is s c i).class) (rising columns))

  lowest_owner : (columns : List Bool) → lowest F (owners F columns) ≡ lowest G (owners G columns)
  lowest_owner columns = ap (lowest F) (owners_is columns) ∙ lowest_is (owners G columns)

  origin_is : (columns : List Bool) → start_origin F columns ≡ start_origin G columns
  origin_is columns = λ i. Some (unwrap_or (lowest_owner columns i) (record { 0 = 0 }))

  origins_is : (concepts : List Pair) → origins_of F concepts ≡ origins_of G concepts
  origins_is concepts = λ i. map (λ (k : Pair). origin_is k.1 i) concepts

  types_is : (concepts : List Pair) → type_names F (member_names F (length F.columns.items)) (origins_of F concepts) (length (origins_of F concepts))
      ≡ type_names G (member_names G (length G.columns.items)) (origins_of G concepts) (length (origins_of G concepts))
  types_is concepts =
      ap (λ z. type_names F (member_names F (length F.columns.items)) (origins_of F concepts) (length z)) (origins_is concepts)
      ∙ type_names_is (member_names F (length F.columns.items)) (member_names G (length G.columns.items)) members_is (origins_of F concepts)
      (origins_of G concepts) (origins_is concepts) (length (origins_of G concepts))

  pub start_is : (T : List (List Bool)) (concepts : List Pair) → start_of F T concepts ≡ start_of G T concepts
  start_is T concepts = λ i. record {
    order = order_of concepts;
    columns = map (column_place T concepts) (range_with_len 0 (length (s.columns i)));
    rows = map (row_place concepts) T;
    types = types_is concepts i;
    members = members_is i;
    origins = origins_is concepts i;
    table = T;
  }

  -- ---- class nodes

  member_is : (H : Hierarchy) (n : ℕ) → has_class_member F H n ≡ has_class_member G H n
  member_is H n = λ i. any_below (length (s.columns i)) (λ c. is_of_class (kind_is s c i) && is_offered H n c)

  object_is : (H : Hierarchy) (n : ℕ) → has_object F H n ≡ has_object G H n
  object_is H n = λ i. any_below (length (s.sites i)) (λ k. ((site_at_is s k i).dim == 0) && is_le H.order n (place_of_row H (site_row_is s k i)))

  pub class_node_is : (H : Hierarchy) (n : ℕ) → is_class_node F H n ≡ is_class_node G H n
  class_node_is H n = λ i. member_is H n i || object_is H n i

  -- ---- edits

  merged_origin_is : (origins : List (Option ClassId)) → merged_origin F origins ≡ merged_origin G origins
  merged_origin_is origins = λ i. option_and_then (λ classes. lowest_is classes i) (all_there origins)

  pub merged_is : (H : Hierarchy) (set : List NodeId) → merged F H set ≡ merged G H set
  merged_is H set = λ i. record H {
    order = merged_order H.order set (least_of H.order set);
    columns = map (option_map (merged_node set (least_of H.order set))) H.columns;
    rows = map (merged_node set (least_of H.order set)) H.rows;
    origins = slice_set H.origins (least_of H.order set) (merged_origin_is (map (λ n. origin_of H n.0) set) i);
  }

  moved_is : (H : Hierarchy) (c : ColId) (n : NodeId) → moved F H c n ≡ moved G H c n
  moved_is H c n = λ i. record H {
    columns = slice_set H.columns c.0 (Some n);
    rows = map (λ r. if is_column c (row_this_is s r i) then n else slice_index_or H.rows r (node 0)) (range_with_len 0 (length H.rows));
  }

  renamed_is : (H : Hierarchy) (c : ColId) (name : List ℕ) → renamed F H c name ≡ renamed G H c name
  renamed_is H c name = λ i. record H {
    members = map (λ d. if (d == c.0) || is_one_slot (slot_is s c.0 i) (slot_is s d i) then name else slice_index_or H.members d [])
        (range_with_len 0 (length H.members));
  }

  pub changed_is : (H : Hierarchy) (e : Edit) → changed F H e ≡ changed G H e
  changed_is H (edit.Merge set) =
      λ i. unless (first_unknown H.order set.items) UnknownNode (unless (first_between H.order set.items) Cycle (Ok (merged_is H set.items i)))
  changed_is H (edit.Under n p) = refl
  changed_is H (edit.Move c n) =
      λ i. if is_placed H c then unless (first_unknown H.order (n ∷ [])) UnknownNode (Ok (moved_is H c n i)) else Err (UnknownMember c)
  changed_is H (edit.TypeName n name) = refl
  changed_is H (edit.MemberName c name) = λ i. if is_placed H c && not (is_mark (kind_is s c.0 i)) then Ok (renamed_is H c name i) else Err (UnknownMember c)
  changed_is H (edit.Drop n) = refl
