-- Believed. The text of a lattice.
use Rattle.std.specs.Prelude.{ℕ, ◌+◌, List, [], ◌∷◌, ◌++◌, length, map, codes}
use Rattle.std.specs.Fmt.{decimal}
use Rattle.kaba_bits.specs.Sets.{size}
use Rattle.fact_model.specs.declared.sets.Concept.{Concept}
use Rattle.fact_model.specs.declared.sets.Lattice.{Lattice}
use Rattle.lattice_view.specs.Lists.{part_text}

-- the line of a concept: its number, the sizes of extent and intent, the columns and rows that stand there, and its upper covers
abbrev pub concept_text : ℕ → Concept → List ℕ
concept_text k x =
    codes "k" ++ (decimal k ++ (codes " " ++ (decimal (size x.extent) ++ (codes " " ++ (decimal (size x.intent)
    ++ (part_text (codes " columns:") (codes "c") (map (λ c. c.0) x.columns.items)
    ++ (part_text (codes " rows:") (codes "r") (map (λ r. r.0) x.rows.items)
    ++ (part_text (codes " above:") (codes "k") x.above.items
    ++ codes "\n"))))))))

-- the lines of concepts, the first having the number k
abbrev pub concepts_text : ℕ → List Concept → List ℕ
concepts_text k [] = []
concepts_text k (x ∷ xs) = concept_text k x ++ concepts_text (k + 1) xs

-- how many concepts there are, and a line for each
abbrev pub lattice_text : Lattice → List ℕ
lattice_text l = codes "concepts " ++ (decimal (length l.concepts.items) ++ (codes "\n" ++ concepts_text 0 l.concepts.items))
