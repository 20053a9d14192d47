-- Believed. The lattice as JSON, in one line. The keys of an object are in the order of their bytes.
use Rattle.std.specs.Prelude.{ℕ, List, ◌++◌, map, codes}
use Rattle.std.specs.Str.{encode_utf8_all}
use Rattle.serde_json.specs.Data.{Data, number, unsigned, string, array, object, member, no_members}
use Rattle.serde_json.specs.View.{items_of}
use Rattle.serde_json.specs.Written.{compact_text}
use Rattle.kaba_bits.specs.Sets.{size}
use Rattle.fact_model.specs.declared.facts.Facts.{Facts}
use Rattle.fact_model.specs.declared.sets.Concept.{Concept}
use Rattle.fact_model.specs.declared.sets.Lattice.{Lattice}

-- numbers as they are
abbrev pub numbers_data : List ℕ → Data
numbers_data ns = array (items_of (map (λ n. number (unsigned n)) ns))

-- names as texts
abbrev pub names_data : List (List ℕ) → Data
names_data names = array (items_of (map (λ name. string (encode_utf8_all name)) names))

-- an object of a concept's four parts
abbrev pub concept_parts : Data → Data → Data → ℕ → Data
concept_parts above columns rows count =
    object (member (codes "above") above
    (member (codes "columns") columns (member (codes "rows") rows (member (codes "size") (number (unsigned count)) no_members))))

-- a concept: its upper covers, the columns and rows that stand there, and the size of its extent
abbrev pub concept_data : Concept → Data
concept_data x = concept_parts (numbers_data x.above.items) (numbers_data (map (λ c. c.0) x.columns.items))
    (numbers_data (map (λ r. r.0) x.rows.items)) (size x.extent)

-- an object of a lattice's three parts
abbrev pub lattice_parts : Data → Data → Data → Data
lattice_parts columns concepts rows = object (member (codes "columns") columns (member (codes "concepts") concepts (member (codes "rows") rows no_members)))

-- a lattice: the labels of the columns, the concepts, and the labels of the rows
abbrev pub lattice_data : Facts → Lattice → Data
lattice_data f l = lattice_parts (names_data (map (λ c. c.label) f.columns.items)) (array (items_of (map concept_data l.concepts.items)))
    (names_data (map (λ r. r.label) f.rows.items))

-- the line: that object with no space between, and the end of the line
abbrev pub lattice_json : Facts → Lattice → List ℕ
lattice_json f l = compact_text (lattice_data f l) ++ codes "\n"
