-- Believed. The files that a shelf tells, the bytes that a sink has taken, and counts of faults.
use Rattle.std.specs.Prelude.{◌≡◌, ℕ, ◌+◌, ◌-◌, ◌^◌, ◌≤◌, List, [], ◌∷◌, ◌++◌, length, take, min, Option, Some, None, if◌then◌else◌, string_bytes}
use Rattle.std.specs.Str.{bytes_eq}
use Rattle.std.specs.declared.string.String.{String}
use Rattle.std.specs.declared.vec.Vec.{Vec}
use Rattle.std.specs.declared.alloc.Global.{Global}
use Rattle.std.specs.Option.{IsSomeAnd}

-- the bytes of each name, and None where no file has the name
abbrev pub Files : Type 0
Files = List ℕ → Option (List ℕ)

-- the shelf tells that no file has this name
abbrev pub IsAbsent : Option Files → List ℕ → Type 0
IsAbsent told name = IsSomeAnd told (λ files. files name ≡ None)

-- the shelf tells that the file of this name has these bytes
abbrev pub IsFile : Option Files → List ℕ → List ℕ → Type 0
IsFile told name bytes = IsSomeAnd told (λ files. files name ≡ Some bytes)

-- a count of faults rose, or stands at the last value of a u64
abbrev pub Rose : ℕ → ℕ → Type 0
Rose before now = min (before + 1) (2 ^ 64 - 1) ≤ now

-- what a sink has taken after this piece, where it tells
abbrev pub taken_more : Option (List ℕ) → List ℕ → Option (List ℕ)
taken_more None piece = None
taken_more (Some bytes) piece = Some (bytes ++ piece)

-- the sink took a front of these bytes
abbrev pub HoldsPrefix : Option (List ℕ) → Option (List ℕ) → List ℕ → Type 0
HoldsPrefix before now bytes = (n : ℕ) × (n ≤ length bytes) × (now ≡ taken_more before (take n bytes))

-- the first file of a name
abbrev pub file_of : List (String Global × Vec ℕ Global) → List ℕ → Option (List ℕ)
file_of [] name = None
file_of (file ∷ files) name = if bytes_eq (string_bytes file.0) name then Some file.1.items else file_of files name
