-- Believed. Lists of numbers in a line.
use Rattle.std.specs.Prelude.{ℕ, List, [], ◌∷◌, ◌++◌, codes}
use Rattle.std.specs.List.{flat_map}
use Rattle.std.specs.Fmt.{decimal}

-- a list of numbers, each with a mark before it; an empty one is a dash
abbrev pub list_text : List ℕ → List ℕ → List ℕ
list_text mark [] = codes " -"
list_text mark (n ∷ ns) = flat_map (λ m. codes " " ++ (mark ++ decimal m)) (n ∷ ns)

-- such a list after its name
abbrev pub part_text : List ℕ → List ℕ → List ℕ → List ℕ
part_text name mark ns = name ++ list_text mark ns
