-- Mirror. Where a class's own member of a name stands.
use Rattle.std.specs.Prelude.{◌≡◌, ℕ, List, Option, None, nat_eq}
use Rattle.std.specs.Option.{option_map_or}
use Rattle.std.specs.Str.{encode_utf8_all}
use Rattle.indexmap.specs.IndexMap.{get, get_by_text}
use Rattle.name_tables.specs.declared.owned.Owned.{Owned}

-- the number that a table has under a class and a name
abbrev pub owned_in : Owned → ℕ → List ℕ → Option ℕ
owned_in s c n = option_map_or (λ m. get nat_eq m c) (get_by_text s.numbers (encode_utf8_all n)) None

-- the table has under each class and name what is found there
pub record AreNamesOwned (find : ℕ → List ℕ → Option ℕ) (s : Owned) : Type 0 where
  pub exact : (c : ℕ) (n : List ℕ) → owned_in s c n ≡ find c n
