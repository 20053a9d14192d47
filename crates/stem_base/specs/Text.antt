-- Believed. The text of a base.
use Rattle.std.specs.Prelude.{ℕ, ◌+◌, List, [], ◌∷◌, ◌++◌, length, codes, not}
use Rattle.std.specs.List.{filter}
use Rattle.std.specs.Fmt.{decimal}
use Rattle.kaba_bits.specs.Sets.{bit, rising}
use Rattle.lattice_view.specs.Lists.{part_text}
use Rattle.stem_base.specs.Base.{Sides}

-- the columns of the right side that the left side lacks, rising
abbrev pub added : Sides → List ℕ
added r = filter (λ c. not (bit r.0 c)) (rising r.1)

-- the line of an implication: its number, its left side, and what it adds
abbrev pub implication_text : ℕ → Sides → List ℕ
implication_text k r = codes "i"
    ++ (decimal k ++ (part_text (codes ":") (codes "c") (rising r.0) ++ (part_text (codes " ->") (codes "c") (added r) ++ codes "\n")))

-- the lines of implications, the first having the number k
abbrev pub implications_text : ℕ → List Sides → List ℕ
implications_text k [] = []
implications_text k (r ∷ rs) = implication_text k r ++ implications_text (k + 1) rs

-- how many implications there are, and a line for each
abbrev pub base_text : List Sides → List ℕ
base_text rs = codes "implications " ++ (decimal (length rs) ++ (codes "\n" ++ implications_text 0 rs))
