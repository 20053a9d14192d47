-- Believed. The words of a run.
use Rattle.std.specs.Prelude.{ℕ, List, flat_map}
use Rattle.std.specs.Str.{chars}
use Rattle.std.specs.Char.Escape.{encode_utf16}

-- the units of a word, of which these are the bytes
abbrev pub units_of : List ℕ → List ℕ
units_of word = flat_map encode_utf16 (chars word)
