-- Believed. The classes of characters.
use Rattle.std.specs.Prelude.{ℕ, Bool, true, false, not, ◌||◌, ◌&&◌, ◌==◌, List, [], ◌∷◌}

-- space, tab, form feed, CR and LF
abbrev pub is_blank : ℕ → Bool
is_blank c = (c == 32) || (c == 9) || (c == 12) || (c == 13) || (c == 10)

-- LF and CR, which end a line
abbrev pub is_line_end : ℕ → Bool
is_line_end c = (c == 10) || (c == 13)

-- every character that does not end a line
abbrev pub in_line : ℕ → Bool
in_line c = not (is_line_end c)

-- whether the list begins with these
abbrev pub is_front : List ℕ → List ℕ → Bool
is_front [] cs = true
is_front (x ∷ xs) [] = false
is_front (x ∷ xs) (c ∷ cs) = (c == x) && is_front xs cs
