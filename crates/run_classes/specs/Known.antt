-- Mirror. What is known by numbers: where an entry is missing, or has nothing, nothing is known there.
use Rattle.std.specs.Prelude.{◌≡◌, ◌⊎◌, ℕ, List, Option, Some, None, slice_get}
use Rattle.std.specs.Option.{option_and_then}
use Rattle.std.specs.declared.vec.Vec.{Vec}
use Rattle.std.specs.declared.alloc.Global.{Global}

module _ {T : Type 0} where
  -- what is known of a number, and of two
  abbrev pub known : List (Option T) → ℕ → Option T
  known entries i = option_and_then (λ o. o) (slice_get entries i)

  -- what a row that was found knows of a number; a row that is not there knows nothing
  abbrev pub entries_at : Option (Vec (Option T) Global) → ℕ → Option T
  entries_at None j = None
  entries_at (Some row) j = known row.items j

  -- what rows know of two numbers, the first of which is that of the row
  abbrev pub known_in : List (Vec (Option T) Global) → ℕ → ℕ → Option T
  known_in rows i j = entries_at (slice_get rows i) j

  -- no more is known than before, but this
  pub record Learns (old new : List (Option T)) (at : ℕ) (x : T) : Type 0 where
    pub only : (i : ℕ) (y : T) → known new i ≡ Some y → (known old i ≡ Some y) ⊎ ((i ≡ at) × (y ≡ x))

  -- in rows no more is known than before, but this
  pub record LearnsIn (old new : List (Vec (Option T) Global)) (row column : ℕ) (x : T) : Type 0 where
    pub only : (i j : ℕ) (y : T) → known_in new i j ≡ Some y → (known_in old i j ≡ Some y) ⊎ ((i ≡ row) × (j ≡ column) × (y ≡ x))

  -- no more is known than before
  pub record LearnsNothing (old new : List (Option T)) : Type 0 where
    pub only : (i : ℕ) (y : T) → known new i ≡ Some y → known old i ≡ Some y

  -- nothing is known
  pub record IsIgnorant (rows : List (Vec (Option T) Global)) : Type 0 where
    pub nothing : (i j : ℕ) (y : T) → known_in rows i j ≡ Some y → ⊥

  -- nothing is known of any number
  pub record IsEmpty (entries : List (Option T)) : Type 0 where
    pub nothing : (i : ℕ) (y : T) → known entries i ≡ Some y → ⊥
