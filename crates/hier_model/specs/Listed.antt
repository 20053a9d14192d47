-- Mirror. The nodes of a lattice's concepts, and the concepts that list a column or a row.
use Rattle.std.specs.Prelude.{◌≡◌, ℕ, ◌<◌, ◌≤◌, ◌==◌, ◌&&◌, Bool, false, List, length, map, Option, unwrap_or, slice_get}
use Rattle.std.specs.Option.{option_map_or}
use Rattle.std.specs.List.{list_any}
use Rattle.kaba_base.specs.declared.NodeId.{NodeId}
use Rattle.kaba_bits.specs.Sets.{bit, row, HasWidth, first_below, when}
use Rattle.fact_model.specs.Concepts.{pair_of}
use Rattle.fact_model.specs.declared.sets.Concept.{Concept}
use Rattle.hier_model.specs.Hierarchies.{node}
use Rattle.hier_model.specs.Start.{concept_at, is_filled, is_subset}

-- the extent and the intent at a number
abbrev pub extent_of : List Concept → ℕ → List Bool
extent_of concepts k = (concept_at (map pair_of concepts) k).0

-- the columns of the concept at a number
abbrev pub intent_of : List Concept → ℕ → List Bool
intent_of concepts k = (concept_at (map pair_of concepts) k).1

-- whether the extent of a is not empty, and within that of b
abbrev pub is_above_concept : List Concept → ℕ → ℕ → Bool
is_above_concept concepts a b = is_filled (extent_of concepts a) && is_subset (extent_of concepts a) (extent_of concepts b)

-- for each number of the extents the set of the concepts below a bound whose extent has it
pub record AreConceptsWith (concepts : List Concept) (bound : ℕ) (having : List (List Bool)) : Type 0 where
  pub len : length having ≡ length (extent_of concepts 0)
  pub widths : HasWidth (length concepts) having
  pub bits : (i b : ℕ) → b < bound → bit (row having i) b ≡ bit (extent_of concepts b) i
  pub rest : (i b : ℕ) → bound ≤ b → bit (row having i) b ≡ false

-- whether the concept at k lists a column
abbrev pub lists_column : List Concept → ℕ → ℕ → Bool
lists_column concepts k c = option_map_or (λ x. list_any (λ d. d.0 == c) x.columns.items) (slice_get concepts k) false

-- whether the concept at k lists a row
abbrev pub lists_row : List Concept → ℕ → ℕ → Bool
lists_row concepts k r = option_map_or (λ x. list_any (λ q. q.0 == r) x.rows.items) (slice_get concepts k) false

-- the node of the first concept that lists a column
abbrev pub listed_column : List Concept → ℕ → Option NodeId
listed_column concepts c = first_below (length concepts) (λ k. when (lists_column concepts k c) (node k))

-- the node of the first concept that lists a row
abbrev pub listed_row : List Concept → ℕ → Option NodeId
listed_row concepts r = first_below (length concepts) (λ k. when (lists_row concepts k r) (node k))

-- the node that lists a row, and node 0 where none does
abbrev pub row_node : List Concept → ℕ → NodeId
row_node concepts r = unwrap_or (listed_row concepts r) (node 0)
