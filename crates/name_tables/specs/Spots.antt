-- Mirror. Where each name stands in a list of names.
use Rattle.std.specs.Prelude.{◌≡◌, ℕ, ◌+◌, cond, List, [], ◌∷◌}
use Rattle.std.specs.Option.{option_map_or}
use Rattle.std.specs.Str.{bytes_eq, encode_utf8_all}
use Rattle.indexmap.specs.IndexMap.{get_by_text}
use Rattle.name_tables.specs.declared.spots.Spots.{Spots}

-- the numbers of the names that are n, the first of the names numbered k
abbrev pub spots_from : ℕ → List ℕ → List (List ℕ) → List ℕ
spots_from k n [] = []
spots_from k n (x ∷ xs) = cond (bytes_eq x n) (k ∷ spots_from (k + 1) n xs) (spots_from (k + 1) n xs)

-- the numbers that a table has under a name
abbrev pub spots_of : Spots → List ℕ → List ℕ
spots_of s n = option_map_or (λ v. v.items) (get_by_text s.places (encode_utf8_all n)) []

-- the table has for each name where it stands
pub record AreSpots (names : List (List ℕ)) (s : Spots) : Type 0 where
  pub exact : (n : List ℕ) → spots_of s n ≡ spots_from 0 n names
