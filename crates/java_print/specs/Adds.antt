-- Mirror. What a printer adds to a text.
use Rattle.std.specs.Prelude.{◌≡◌, ℕ, List, ◌∷◌, ◌++◌}
use Rattle.std.specs.Str.{encode_utf8_all}
use Rattle.kaba_base.specs.declared.Keyword.{Keyword}
use Rattle.java_lex.specs.declared.Mark.TheVariants as marks
use Rattle.java_tree.specs.Syntax.{Expression, Expressions, Statements}
use Rattle.java_print.specs.Items.{Item, Space, End, Margin, text}
use Rattle.java_print.specs.Layout.{mark_then, key_then, called_items, condition_items, body_block}

-- the old text with these items before it is the new one with those
pub record Adds (old new : List ℕ) (before after : List Item) : Type 0 where
  pub added : old ++ encode_utf8_all (text before) ≡ new ++ encode_utf8_all (text after)

-- whatever follows, the new text has f's items more
abbrev pub Puts : List ℕ → List ℕ → (List Item → List Item) → Type 0
Puts old new f = (r : List Item) → Adds old new (f r) r

-- a margin of n spaces before these items
abbrev pub margin_then : ℕ → List Item → List Item
margin_then n r = Margin n ∷ r

-- one space before these items
abbrev pub space_then : List Item → List Item
space_then r = Space ∷ r

-- the end of a line before these items
abbrev pub end_then : List Item → List Item
end_then r = End ∷ r

-- a keyword and a space before these items
abbrev pub key_space_then : Keyword → List Item → List Item
key_space_then k r = key_then k (Space ∷ r)

-- in square brackets
abbrev pub square_then : (List Item → List Item) → List Item → List Item
square_then f r = mark_then marks.OpenSquare (f (mark_then marks.CloseSquare r))

-- a dot and a call
abbrev pub dot_call : List ℕ → Expressions → List Item → List Item
dot_call n es r = mark_then marks.Dot (called_items n es r)

-- a keyword and a condition
abbrev pub tested_items : Keyword → Expression → List Item → List Item
tested_items k e r = key_then k (condition_items e r)

-- a body in its braces, with the end of its last line
abbrev pub whole_body : ℕ → Statements → List Item → List Item
whole_body d ss r = body_block d ss (End ∷ r)
