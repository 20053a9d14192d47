-- Believed. The supertypes that the type of a node names.
use Rattle.std.specs.Prelude.{ℕ, ◌&&◌, Bool, not, List, map, filter, length, Option}
use Rattle.std.specs.Option.{option_map}
use Rattle.std.specs.List.{range_with_len}
use Rattle.java_tree.specs.declared.Id.{Id}
use Rattle.kaba_bits.specs.Sets.{first_below, when}
use Rattle.kaba_order.specs.Orders.{Ordered, is_le}
use Rattle.fact_model.specs.declared.facts.Facts.{Facts}
pub use Rattle.hier_model.specs.Covers.{is_above, is_cover}
use Rattle.hier_model.specs.Hierarchies.{Hierarchy, type_name, any_below, is_class_node}
use Rattle.write_model.specs.Names.{id}

-- the nodes that pass a test, in rising number
abbrev pub nodes_that : Ordered → (ℕ → Bool) → List ℕ
nodes_that o p = filter p (range_with_len 0 (length o.live))

module _ (F : Facts) (H : Hierarchy) where
  -- the class nodes strictly above a node
  abbrev pub is_class_above : ℕ → ℕ → Bool
  is_class_above n a = is_above H.order n a && is_class_node F H a

  -- the lowest of them: at or below all others
  abbrev pub is_superclass : ℕ → ℕ → Bool
  is_superclass n a = is_class_above n a && not (any_below (length H.order.live) (λ b. is_class_above n b && not (is_le H.order a b)))

  -- the lowest class node strictly above a node, where there is one
  abbrev pub superclass : ℕ → Option ℕ
  superclass n = first_below (length H.order.live) (λ a. when (is_superclass n a) a)

  -- the name of a node's type as an identifier
  abbrev pub type_id : ℕ → Id
  type_id n = id (type_name H n)

  -- what a class extends and implements, and what an interface extends
  abbrev pub extended : ℕ → Option Id
  extended n = option_map type_id (superclass n)

  -- the interfaces among a node's upper covers, which a class implements
  abbrev pub implemented : ℕ → List Id
  implemented n = map type_id (nodes_that H.order (λ a. is_cover H.order n a && not (is_class_node F H a)))

  -- the types of all upper covers of a node, which an interface extends
  abbrev pub covering : ℕ → List Id
  covering n = map type_id (nodes_that H.order (λ a. is_cover H.order n a))
