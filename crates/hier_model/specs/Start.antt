-- Believed. The hierarchy that a concept lattice proposes (Snelting and Tip, 2000).
use Rattle.std.specs.Prelude.{ℕ, ◌&&◌, ◌||◌, Bool, true, not, List, [], ◌∷◌, length, map, filter, Option, Some, unwrap_or, slice_index_or}
use Rattle.std.specs.List.{list_any, list_all, range_with_len}
use Rattle.kaba_base.specs.declared.NodeId.{NodeId}
use Rattle.kaba_base.specs.declared.ClassId.{ClassId}
use Rattle.kaba_base.specs.Words.{first_that}
use Rattle.kaba_bits.specs.Sets.{bit, rising, first_below, when}
use Rattle.kaba_order.specs.Orders.{Ordered}
use Rattle.fact_model.specs.Items.{column_at}
use Rattle.fact_model.specs.Classes.{below, is_interface}
use Rattle.fact_model.specs.Concepts.{Pair, pair_of}
use Rattle.fact_model.specs.declared.facts.Facts.{Facts}
use Rattle.fact_model.specs.declared.sets.Table.{Table}
use Rattle.fact_model.specs.declared.sets.Lattice.{Lattice}
use Rattle.hier_model.specs.Hierarchies.{Hierarchy, node}
use Rattle.hier_model.specs.Names.{member_names, type_names}

-- whether a set has some number
abbrev pub is_filled : List Bool → Bool
is_filled set = list_any (λ b. b) set

-- whether each number of the first set is in the second
abbrev pub is_subset : List Bool → List Bool → Bool
is_subset [] b = true
is_subset (x ∷ a) [] = not x && is_subset a []
is_subset (x ∷ a) (y ∷ b) = (not x || y) && is_subset a b

-- whether two sets of one width have the same numbers
abbrev pub is_same_set : List Bool → List Bool → Bool
is_same_set a b = is_subset a b && is_subset b a

-- the nodes are the concepts whose extent is not empty, ordered by their extents
abbrev pub order_of : List Pair → Ordered
order_of concepts = record {
  live = map (λ k. is_filled k.0) concepts;
  le = map (λ k. map (λ l. is_filled k.0 && is_subset k.0 l.0) concepts) concepts;
}

-- the concept at a number
abbrev pub concept_at : List Pair → ℕ → Pair
concept_at concepts k = slice_index_or concepts k ([], [])

-- the rows that have a column
abbrev pub rows_with : List (List Bool) → ℕ → List Bool
rows_with T c = map (λ r. bit r c) T

-- a column that some row has stands at the concept whose extent is the rows that have it
abbrev pub column_place : List (List Bool) → List Pair → ℕ → Option NodeId
column_place T concepts c =
    first_below (length concepts) (λ k. when (is_filled (rows_with T c) && is_same_set (concept_at concepts k).0 (rows_with T c)) (node k))

-- a row stands at the concept whose intent is the row's columns
abbrev pub row_place : List Pair → List Bool → NodeId
row_place concepts columns = unwrap_or (first_below (length concepts) (λ k. when (is_same_set (concept_at concepts k).1 columns) (node k))) (node 0)

-- whether a class is at or below all of some classes
abbrev pub is_below_all : Facts → List ClassId → ClassId → Bool
is_below_all F classes k = list_all (λ l. below F k.0 l.0) classes

-- the first of some classes that is at or below them all: the lowest
abbrev pub lowest : Facts → List ClassId → Option ClassId
lowest F classes = first_that (is_below_all F classes) classes

-- the classes of the columns of a set; interfaces are passed over
abbrev pub owners : Facts → List Bool → List ClassId
owners F columns = filter (λ k. not (is_interface F k.0)) (map (λ c. (column_at F c).class) (rising columns))

-- the origin of a node: the lowest class of the columns of its intent, or else Object
abbrev pub start_origin : Facts → List Bool → Option ClassId
start_origin F intent = Some (unwrap_or (lowest F (owners F intent)) (record { 0 = 0 }))

-- the origin of the node of each concept, in their order
abbrev pub origins_of : Facts → List Pair → List (Option ClassId)
origins_of F concepts = map (λ k. start_origin F k.1) concepts

-- the hierarchy of a table and its concepts
abbrev pub start_of : Facts → List (List Bool) → List Pair → Hierarchy
start_of F T concepts =
    let members = member_names F (length F.columns.items) in
    let origins = origins_of F concepts in
    record {
      order = order_of concepts;
      columns = map (column_place T concepts) (range_with_len 0 (length F.columns.items));
      rows = map (row_place concepts) T;
      types = type_names F members origins (length origins);
      members = members;
      origins = origins;
      table = T;
    }

-- the same of the types of the program
abbrev pub start_from : Facts → Table → Lattice → Hierarchy
start_from F t l = start_of F t.rows.items (map pair_of l.concepts.items)
