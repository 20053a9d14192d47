-- Mirror. The heap as two lists, and what stands at a place in it.
use Rattle.std.specs.Prelude.{◌≡◌, ℕ, ◌+◌, ◌≤◌, List, [], ◌∷◌, length, map, take, drop, Option}
use Rattle.std.specs.Option.{option_map}
use Rattle.kaba_base.specs.declared.SiteId.{SiteId}
use Rattle.java_heap.specs.declared.heap.Label.{Label}
use Rattle.java_heap.specs.declared.heap.Span.{Span}
use Rattle.java_heap.specs.declared.values.Value.{Value}
use Rattle.java_heap.specs.Seen.{value_of, kind_of}
use Rattle.java_meaning.specs.Moment.{Cell}

-- the strings, each a list of units, and the cells
pub record Store : Type 0 where
  pub strings : List (List ℕ)
  pub cells : List Cell

-- the number of the creation that made a cell, where one did
abbrev pub site_of : Option SiteId → Option ℕ
site_of s = option_map (λ n. n.0) s

-- a cell as the heap has it
pub record HeapCell : Type 0 where
  pub label : Label
  pub span : Span

-- the cells of as many labels and spans
abbrev pub paired : List Label → List Span → List HeapCell
paired [] ss = []
paired (l ∷ ls) [] = []
paired (l ∷ ls) (s ∷ ss) = record { label = l; span = s } ∷ paired ls ss

-- the values of a cell among those of all cells
abbrev pub values_in : List Value → Span → List Value
values_in vs s = take s.len (drop s.start vs)

-- the cell of the meaning that a cell of the heap stands for, among the values of all cells
abbrev pub cell_in : List Value → HeapCell → Cell
cell_in vs c = record { site = site_of c.label.site; kind = kind_of c.label.kind; values = map value_of (values_in vs c.span) }

-- the cells of the meaning that a heap stands for
abbrev pub cells_of : List Label → List Span → List Value → List Cell
cells_of ls ss vs = map (cell_in vs) (paired ls ss)

-- the values of each cell lie behind those of the cells before it, the first from here on, and all within so many values
abbrev pub LieFrom : ℕ → List HeapCell → ℕ → Type 0
LieFrom from [] size = from ≤ size
LieFrom from (c ∷ cs) size = (from ≤ c.span.start) × LieFrom (c.span.start + c.span.len) cs size

-- the lists are those of a heap: as many labels as spans, and the spans lie one behind the other in the values
pub record IsHeap (ls : List Label) (ss : List Span) (vs : List Value) : Type 0 where
  pub same : length ls ≡ length ss
  pub lie : LieFrom 0 (paired ls ss) (length vs)
