-- Believed. Names that are none of given ones.
use Rattle.std.specs.Prelude.{ℕ, ◌+◌, max, Bool, not, List, [], ◌∷◌, ◌++◌, length, unwrap_or, replicate}
use Rattle.std.specs.List.{list_any}
use Rattle.std.specs.Str.{bytes_eq}
use Rattle.kaba_bits.specs.Sets.{first_below, when}

-- whether a name is one of a list
abbrev pub is_taken : List (List ℕ) → List ℕ → Bool
is_taken taken name = list_any (bytes_eq name) taken

-- the length of the longest of some names
abbrev pub longest : List (List ℕ) → ℕ
longest [] = 0
longest (n ∷ ns) = max (length n) (longest ns)

-- a name with k underscores behind it
abbrev pub lengthened : List ℕ → ℕ → List ℕ
lengthened name k = name ++ replicate k 95

-- how many underscores a name needs to be none of those taken: the least number with which it is free
abbrev pub underscores : List (List ℕ) → List ℕ → ℕ
underscores taken name = unwrap_or (first_below (longest taken + 2) (λ k. when (not (is_taken taken (lengthened name k))) k)) 0

-- a name that is none of those taken, with as many underscores behind it as that takes
abbrev pub free_name : List (List ℕ) → List ℕ → List ℕ
free_name taken name = lengthened name (underscores taken name)
