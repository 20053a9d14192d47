-- Mirror. The differences between a hierarchy and the one that an edit made of it.
use Rattle.std.specs.Prelude.{◌≡◌, ℕ, suc, zero, ◌==◌, ◌&&◌, Bool, true, false, not, List, [], ◌∷◌, ◌++◌, length, Option, Some, None, Ok}
use Rattle.std.specs.List.{flat_map}
use Rattle.std.specs.Str.{bytes_eq}
use Rattle.kaba_base.specs.declared.NodeId.{NodeId}
use Rattle.kaba_base.specs.declared.ClassId.{ClassId}
pub use Rattle.kaba_order.specs.Written.{each_below, only_if}
use Rattle.kaba_order.specs.Orders.{is_le, is_live, differ}
use Rattle.fact_model.specs.InRange.{InRange}
use Rattle.fact_model.specs.declared.facts.Facts.{Facts}
use Rattle.hier_model.specs.Hierarchies.{Hierarchy, node, place_of_column, place_of_row, type_name, member_name, origin_of, is_at, IsHierarchyOf}
use Rattle.hier_model.specs.Edits.{changed, NamesSome}
use Rattle.hier_model.specs.declared.edits.Edit.{Edit}
use Rattle.hier_model.specs.declared.differences.Change.{Change}
use Rattle.hier_model.specs.declared.differences.Change.TheVariants.{Node, Pair, Column, Row, TypeName, MemberName, Origin}
use Rattle.hier_model.specs.declared.differences.Undo.{Undo}

-- whether two origins are the same class, or both are none
abbrev pub is_same_origin : Option ClassId → Option ClassId → Bool
is_same_origin None None = true
is_same_origin None (Some b) = false
is_same_origin (Some a) None = false
is_same_origin (Some a) (Some b) = a.0 == b.0

-- whether a node is live in both hierarchies
abbrev pub lives_on : Hierarchy → Hierarchy → ℕ → Bool
lives_on old new n = is_live old.order n && is_live new.order n

-- the node that is live in the old hierarchy alone, with its name and origin
abbrev pub node_change : Hierarchy → Hierarchy → ℕ → List Change
node_change old new n = only_if (is_live old.order n && not (is_live new.order n)) (Node (node n) (type_name old n) (origin_of old n))

-- two different nodes of which the first stands below the second in just one of the hierarchies, and whether in the old one
abbrev pub pair_change : Hierarchy → Hierarchy → ℕ → ℕ → List Change
pair_change old new a b =
    only_if (not (a == b) && differ (is_le old.order a b) (is_le new.order a b)) (Pair (node a) (node b) (is_le old.order a b))

-- the place that a column had, where it has another
abbrev pub changed_place : ℕ → Option NodeId → Option NodeId → List Change
changed_place c None new = []
changed_place c (Some p) new = only_if (not (is_at p.0 new)) (Column (record { 0 = c }) p)

abbrev pub column_change : Hierarchy → Hierarchy → ℕ → List Change
column_change old new c = changed_place c (place_of_column old c) (place_of_column new c)

-- the place that a row had, where it has another
abbrev pub row_change : Hierarchy → Hierarchy → ℕ → List Change
row_change old new r = only_if (not (place_of_row old r == place_of_row new r)) (Row (record { 0 = r }) (node (place_of_row old r)))

-- the name that a type had, where it has another and its node is live in both
abbrev pub type_change : Hierarchy → Hierarchy → ℕ → List Change
type_change old new n = only_if (lives_on old new n && not (bytes_eq (type_name old n) (type_name new n))) (TypeName (node n) (type_name old n))

-- the name that a member had, where it has another
abbrev pub member_change : Hierarchy → Hierarchy → ℕ → List Change
member_change old new c = only_if (not (bytes_eq (member_name old c) (member_name new c))) (MemberName (record { 0 = c }) (member_name old c))

-- the origin that a node had, where it has another and is live in both
abbrev pub origin_change : Hierarchy → Hierarchy → ℕ → List Change
origin_change old new n = only_if (lives_on old new n && not (is_same_origin (origin_of old n) (origin_of new n))) (Origin (node n) (origin_of old n))

abbrev pub node_changes : Hierarchy → Hierarchy → List Change
node_changes old new = each_below (length old.order.live) (node_change old new)

abbrev pub pair_changes : Hierarchy → Hierarchy → List Change
pair_changes old new = each_below (length old.order.live) (λ a. each_below (length old.order.live) (pair_change old new a))

abbrev pub column_changes : Hierarchy → Hierarchy → List Change
column_changes old new = each_below (length old.columns) (column_change old new)

abbrev pub row_changes : Hierarchy → Hierarchy → List Change
row_changes old new = each_below (length old.rows) (row_change old new)

abbrev pub type_changes : Hierarchy → Hierarchy → List Change
type_changes old new = each_below (length old.order.live) (type_change old new)

abbrev pub member_changes : Hierarchy → Hierarchy → List Change
member_changes old new = each_below (length old.members) (member_change old new)

abbrev pub origin_changes : Hierarchy → Hierarchy → List Change
origin_changes old new = each_below (length old.order.live) (origin_change old new)

-- all differences, in the order of the variants, then of the numbers
abbrev pub changes : Hierarchy → Hierarchy → List Change
changes old new =
    node_changes old new ++ pair_changes old new ++ column_changes old new ++ row_changes old new ++ type_changes old new ++ member_changes old new
    ++ origin_changes old new

-- the node that a change takes away
abbrev pub named_node : Change → List NodeId
named_node (Node n name origin) = n ∷ []
named_node (Pair a b was) = []
named_node (Column c p) = []
named_node (Row r p) = []
named_node (TypeName n name) = []
named_node (MemberName c name) = []
named_node (Origin n origin) = []

-- the two nodes whose order a change tells
abbrev pub named_pair : Change → List (NodeId × NodeId)
named_pair (Node n name origin) = []
named_pair (Pair a b was) = (a, b) ∷ []
named_pair (Column c p) = []
named_pair (Row r p) = []
named_pair (TypeName n name) = []
named_pair (MemberName c name) = []
named_pair (Origin n origin) = []

-- what is kept of an edit holds the differences of the two hierarchies, all of them and no other
pub record HoldsChanges (old new : Hierarchy) (kept : Undo) : Type 0 where
  pub all : kept.changes.items ≡ changes old new
  pub nodes : kept.nodes.items ≡ flat_map named_node (changes old new)
  pub pairs : kept.pairs.items ≡ flat_map named_pair (changes old new)

-- an edit made a hierarchy of another
pub record IsOneEdit (old new : Hierarchy) : Type 0 where
  pub facts : Facts
  pub edit : Edit
  pub range : InRange facts
  pub fits : IsHierarchyOf facts old
  pub some : NamesSome edit
  pub made : changed facts old edit ≡ Ok new

-- what is kept of the edit that made a hierarchy of another takes it back
pub record IsUndoOf (old new : Hierarchy) (kept : Undo) : Type 0 where
  pub edited : IsOneEdit old new
  pub holds : HoldsChanges old new kept
