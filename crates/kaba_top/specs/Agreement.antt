-- Believed. Which files an answer may speak of, by what is known of the real ones.
use Rattle.std.specs.Prelude.{◌≡◌, ℕ, List, Option, Some, None}
use Rattle.std.specs.Option.{IsSome}
use Rattle.kaba_base.specs.Outside.{Files}

-- the files agree with what the shelf tells; where it tells nothing, each name has a file
abbrev pub Agrees : Option Files → Files → Type 0
Agrees (Some told) files = files ≡ told
Agrees None files = (name : List ℕ) → IsSome (files name)
