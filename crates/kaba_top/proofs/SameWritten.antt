-- Facts that are the same: the tree that is written of a program and a hierarchy is the same.
use Rattle.std.proofs.Common.{◌≡◌, ℕ, ◌==◌, ◌&&◌, ◌||◌, Bool, true, false, not, List, [], ◌∷◌, ◌++◌, length, map, Option, Some, None, refl, ap, ◌∙◌}
use Rattle.std.specs.Prelude.{slice_get}
use Rattle.std.specs.Option.{option_map, option_map_or}
use Rattle.std.specs.List.{flat_map}
use Rattle.kaba_base.specs.declared.words.Keyword.TheVariants.{Public, Abstract}
use Rattle.kaba_bits.specs.Sets as sets
use Rattle.kaba_order.specs.Orders.{is_le}
use Rattle.java_tree.specs.declared.Modifier.{Modifier}
use Rattle.java_tree.specs.Syntax.{MethodTree, ClassTree, InterfaceTree}
use Rattle.java_tree.specs.Places.{nowhere}
use Rattle.java_core.specs.Programs.{Plain, PlainSlot}
use Rattle.fact_model.specs.declared.facts.Facts.{Facts}
use Rattle.fact_model.specs.declared.facts.ColumnInfo.{ColumnInfo}
use Rattle.fact_model.specs.Classes.{is_def, is_slot}
use Rattle.hier_model.specs.Hierarchies.{Hierarchy, place_of_row, stands_at, is_offered, type_name, any_below, offers_slot, is_class_node}
use Rattle.flow_rules.specs.declared.items.ColumnItem.{ColumnItem}
use Rattle.flow_rules.specs.declared.items.ColumnItem.TheVariants as column
use Rattle.flow_rules.specs.Ordered.{each, when}
use Rattle.flow_rules.specs.Numbered.{columns_of}
use Rattle.rebuild_model.specs.Renaming.{Renaming, renaming_of}
use Rattle.rebuild_model.specs.Members.{is_made_at, offers_body, is_headed, is_filled}
use Rattle.write_model.specs.Names.{modifier, by_number}
use Rattle.write_model.specs.Members.{is_declaration, filling, first_head, slot_head, bodyless, is_first_there, heads_of_slot, column_heads, own_member, column_members, filler, slot_filler, filled_slots, class_members, interface_heads}
use Rattle.write_model.specs.Supers.{is_above, is_cover, nodes_that, is_class_above, superclass, type_id, extended, implemented, covering}
use Rattle.write_model.specs.Written.{class_modifiers, class_tree, interface_tree, type_tree, type_trees, holder_trees, makers_trees, java_tree}
use Rattle.flow_program.specs.Same.{AreSameFacts}
use Rattle.kaba_top.proofs.SameFacts.{site_at_is, site_row_is, kind_is, slot_is}
use Rattle.kaba_top.proofs.SameHierarchies.{class_node_is}

module _ {F G : Facts} (s : AreSameFacts F G) (H : Hierarchy) where
  made_is : (n : ℕ) → is_made_at F H n ≡ is_made_at G H n
  made_is n = λ i. any_below (length (s.sites i)) (λ k. ((site_at_is s k i).dim == 0) && (place_of_row H (site_row_is s k i) == n))

  body_is : (n x : ℕ) → offers_body F H n x ≡ offers_body G H n x
  body_is n x = λ i. any_below (length (s.columns i)) (λ c. is_def (kind_is s c i) && (is_slot (slot_is s c i) x && is_offered H n c))

  slot_offered_is : (n x : ℕ) → offers_slot F H n x ≡ offers_slot G H n x
  slot_offered_is n x = λ i. any_below (length (s.columns i)) (λ c. is_slot (slot_is s c i) x && is_offered H n c)

  headed_is : (n x : ℕ) → is_headed F H n x ≡ is_headed G H n x
  headed_is n x = λ i. not (class_node_is s H n i) || (not (made_is n i) && not (body_is n x i))

  filled_is : (n x : ℕ) → is_filled F H n x ≡ is_filled G H n x
  filled_is n x = λ i. made_is n i && (slot_offered_is n x i && not (body_is n x i))

  first_is : (n c x : ℕ) → is_first_there F H n c x ≡ is_first_there G H n c x
  first_is n c x = λ i. not (any_below c (λ d. is_declaration (kind_is s d i) && (is_slot (slot_is s d i) x && stands_at H n d)))

  class_above_is : (n a : ℕ) → is_class_above F H n a ≡ is_class_above G H n a
  class_above_is n a = λ i. is_above H.order n a && class_node_is s H a i

  superclass_is : (n : ℕ) → superclass F H n ≡ superclass G H n
  superclass_is n =
      λ i. sets.first_below (length H.order.live) (λ a. sets.when
      (class_above_is n a i && not (any_below (length H.order.live) (λ b. class_above_is n b i && not (is_le H.order a b)))) a)

  extended_is : (n : ℕ) → extended F H n ≡ extended G H n
  extended_is n = λ i. option_map (type_id F H) (superclass_is n i)

  implemented_is : (n : ℕ) → implemented F H n ≡ implemented G H n
  implemented_is n = λ i. map (type_id F H) (nodes_that H.order (λ a. is_cover H.order n a && not (class_node_is s H a i)))

  module _ (P : Plain) (R : Renaming) where
    heads_are : (mods : List Modifier) (n c : ℕ) (x : Option ℕ) → heads_of_slot P R F H mods n c x ≡ heads_of_slot P R G H mods n c x
    heads_are mods n c None = refl
    heads_are mods n c (Some x) = λ i. when (headed_is n x i && first_is n c x i) (slot_head P R H mods x)

    column_heads_are : (mods : List Modifier) (n c : ℕ) (k : ColumnInfo) → column_heads P R F H mods n c k ≡ column_heads P R G H mods n c k
    column_heads_are mods n c k = λ i. when (is_declaration k.kind) (heads_are mods n c k.slot i)

    own_is : (o : Option ColumnItem) → own_member P R F H o ≡ own_member P R G H o
    own_is (Some (column.Fld f)) = refl
    own_is (Some (column.Def m)) = refl
    own_is (Some (column.Dcl m)) = refl
    own_is (Some (column.Is k)) = refl
    own_is None = refl

    column_members_are : (items : List ColumnItem) (n c : ℕ) (k : ColumnInfo) → column_members P R F H items n c k ≡ column_members P R G H items n c k
    column_members_are items n c k =
        λ i. map bodyless (column_heads_are (modifier Public ∷ modifier Abstract ∷ []) n c k i) ++ own_is (slice_get items c) i

    filler_is : (n x : ℕ) (k : PlainSlot) → filler P R F H n x k ≡ filler P R G H n x k
    filler_is n x k =
        λ i. when (filled_is n x i) (map (λ h. MethodTree h (Some (filling k.result)) nowhere) (first_head P R H (modifier Public ∷ []) k))

    slot_filler_is : (n x : ℕ) → slot_filler P R F H n x ≡ slot_filler P R G H n x
    slot_filler_is n x = λ i. option_map_or (λ k. filler_is n x k i) (slice_get P.slots x) []

    class_members_are : (items : List ColumnItem) (n : ℕ) → class_members P R F H items n ≡ class_members P R G H items n
    class_members_are items n =
        λ i. each (λ c k. when (stands_at H n c) (column_members_are items n c k i)) 0 (s.columns i)
        ++ flat_map (λ x. slot_filler_is n x i) (filled_slots P)

    interface_heads_are : (n : ℕ) → interface_heads P R F H n ≡ interface_heads P R G H n
    interface_heads_are n = λ i. each (λ c k. when (stands_at H n c) (column_heads_are [] n c k i)) 0 (s.columns i)

    class_is : (items : List ColumnItem) (n : ℕ) → class_tree P R F H items n ≡ class_tree P R G H items n
    class_is items n =
        λ i. ClassTree (class_modifiers (made_is n i)) (type_name H n) (extended_is n i) (implemented_is n i) (class_members_are items n i) nowhere

    interface_is : (items : List ColumnItem) (n : ℕ) → interface_tree P R F H items n ≡ interface_tree P R G H items n
    interface_is items n = λ i. InterfaceTree [] (type_name H n) (covering F H n) (interface_heads_are n i) nowhere

    type_is : (items : List ColumnItem) (b : Bool) (n : ℕ) → type_tree P R F H items b n ≡ type_tree P R G H items b n
    type_is items true n = class_is items n
    type_is items false n = interface_is items n

    node_is : (items : List ColumnItem) (n : ℕ) → type_tree P R F H items (is_class_node F H n) n ≡ type_tree P R G H items (is_class_node G H n) n
    node_is items n = ap (λ b. type_tree P R F H items b n) (class_node_is s H n) ∙ type_is items (is_class_node G H n) n

    types_are : (items : List ColumnItem) → type_trees P R F H items ≡ type_trees P R G H items
    types_are items = λ i. each (λ n live. when live (node_is items n i ∷ [])) 0 H.order.live

  pub tree_is : (P : Plain) → java_tree P F H ≡ java_tree P G H
  unfolding java_tree
  tree_is P =
      λ i. types_are P (renaming_of P H by_number) (map (λ c. c.item) (columns_of P)) i
      ++ holder_trees P (renaming_of P H by_number) H ++ makers_trees P (renaming_of P H by_number) H
