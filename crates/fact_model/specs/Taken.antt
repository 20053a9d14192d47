-- Mirror. The names that a table of texts holds.
use Rattle.std.specs.Prelude.{◌≡◌, ℕ, List, map, String, string_bytes}
use Rattle.std.specs.Str.{chars}
use Rattle.std.specs.declared.alloc.Global.{Global}
use Rattle.fact_model.specs.FreeNames.{is_taken}

-- texts, as names
abbrev pub texts : List (String Global) → List (List ℕ)
texts keys = map (λ s. chars (string_bytes s)) keys

-- two lists have the same names
abbrev pub AreSameNames : List (List ℕ) → List (List ℕ) → Type 0
AreSameNames t s = (x : List ℕ) → is_taken t x ≡ is_taken s x
