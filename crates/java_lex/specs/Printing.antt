-- Believed. How characters are written in literals.
use Rattle.std.specs.Prelude.{ℕ, List, [], ◌∷◌, Option, Some, None, if◌then◌else◌, ◌==◌}

-- the letter of the escape of a character that has one
abbrev pub letter_of : ℕ → Option ℕ
letter_of c = if c == 8 then Some 98 else if c == 9 then Some 116 else if c == 10 then Some 110 else if c == 12 then Some 102 else if c == 13 then Some 114
    else if c == 34 then Some 34 else if c == 39 then Some 39 else if c == 92 then Some 92 else None

-- a character in a literal: a backslash and the letter of its escape where it has one, or else itself
abbrev pub written_by : ℕ → Option ℕ → List ℕ
written_by c (Some d) = 92 ∷ d ∷ []
written_by c None = c ∷ []

-- how a character is written in a literal, with an escape where it has one
abbrev pub written : ℕ → List ℕ
written c = written_by c (letter_of c)
