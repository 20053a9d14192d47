-- Believed. The nesting stack over a list of tokens.
use Rattle.std.specs.Prelude.{ℕ, zero, suc, ◌<◌, ◌≤◌, List, [], ◌∷◌, length, Bool, true, false, if◌then◌else◌, ◌||◌, nat_lt, max, is_some}
use Rattle.kaba_base.specs.declared.words.Keyword.{Keyword}
use Rattle.kaba_base.specs.declared.words.Keyword.TheVariants as keys
use Rattle.java_lex.specs.declared.Token.{Token}
use Rattle.java_lex.specs.declared.TokenKind.{TokenKind}
use Rattle.java_lex.specs.declared.TokenKind.TheVariants as kinds
use Rattle.java_lex.specs.declared.Mark.{Mark}
use Rattle.java_lex.specs.declared.Mark.TheVariants as marks
use Rattle.java_tree.specs.declared.Entry.{Entry}
use Rattle.java_tree.specs.declared.Entry.TheVariants as entries
use Rattle.java_tree.specs.Tokens.{casts, level, is_sign, compound, stepping}

-- whether an entry is an open bracket: round, square or a brace
abbrev pub is_bracket : Entry → Bool
is_bracket entries.Round = true
is_bracket entries.Square = true
is_bracket entries.Brace = true
is_bracket _ = false

-- without the operators on top
abbrev pub no_operators : List Entry → List Entry
no_operators [] = []
no_operators (entries.Operator ∷ s) = no_operators s
no_operators (e ∷ s) = e ∷ s

-- from the topmost bracket on
abbrev pub to_bracket : List Entry → List Entry
to_bracket [] = []
to_bracket (e ∷ s) = if is_bracket e then e ∷ s else to_bracket s

-- the stack without its topmost entry
abbrev pub tail_of : List Entry → List Entry
tail_of [] = []
tail_of (e ∷ s) = s

-- below the topmost bracket, or nothing where there is none
abbrev pub closed : List Entry → List Entry
closed s = tail_of (to_bracket s)

-- whether a token is `else`
abbrev pub is_else : TokenKind → Bool
is_else (kinds.Key keys.Else) = true
is_else _ = false

-- whether a token behind a `]` goes on with the same expression: `[` or `.`
abbrev pub goes_on : TokenKind → Bool
goes_on (kinds.Mark marks.OpenSquare) = true
goes_on (kinds.Mark marks.Dot) = true
goes_on _ = false

-- whether there is a next token, and it is such
abbrev pub next_is : (TokenKind → Bool) → List Token → Bool
next_is f [] = false
next_is f (t ∷ ts) = f t.kind

-- whether a round bracket is on top
abbrev pub is_round : List Entry → Bool
is_round [] = false
is_round (entries.Round ∷ s) = true
is_round (e ∷ s) = false

-- at the end of a statement: inside round brackets nothing is popped, before an `else` the operators on top,
-- otherwise all above the topmost bracket
abbrev pub ended : List Token → List Entry → List Entry
ended next s = if is_round (to_bracket s) then s else if next_is is_else next then no_operators s else to_bracket s

-- binary and prefix operators, `.`, `=`, compound marks, `++` and `--`
abbrev pub is_operator : Mark → Bool
is_operator marks.Dot = true
is_operator marks.Assign = true
is_operator m = is_some (compound m) || is_some (stepping m) || nat_lt 0 (level m) || is_sign m

-- the stack after a mark, by the tokens that follow
abbrev pub after_mark : Mark → List Token → List Entry → List Entry
after_mark marks.OpenRound next s = entries.Round ∷ s
after_mark marks.OpenSquare next s = entries.Square ∷ s
after_mark marks.OpenBrace next s = entries.Brace ∷ s
after_mark marks.CloseRound next s = if casts next then entries.Operator ∷ closed s else closed s
after_mark marks.CloseSquare next s = if next_is goes_on next then entries.Operator ∷ closed s else closed s
after_mark marks.CloseBrace next s = ended next (closed s)
after_mark marks.Semi next s = ended next s
after_mark marks.Comma next s = no_operators s
after_mark m next s = if is_operator m then entries.Operator ∷ s else s

-- the stack after a keyword: `if`, `else`, `while` and `for` are put on it as words, `instanceof` as an operator
abbrev pub after_key : Keyword → List Entry → List Entry
after_key keys.If s = entries.Word ∷ s
after_key keys.Else s = entries.Word ∷ s
after_key keys.While s = entries.Word ∷ s
after_key keys.For s = entries.Word ∷ s
after_key keys.InstanceOf s = entries.Operator ∷ s
after_key k s = s

-- the stack after one token, by the tokens that follow
abbrev pub after_token : TokenKind → List Token → List Entry → List Entry
after_token (kinds.Mark m) next s = after_mark m next s
after_token (kinds.Key k) next s = after_key k s
after_token k next s = s

-- the stack after the first n tokens
abbrev pub stack_after : List Entry → List Token → ℕ → List Entry
stack_after s ts zero = s
stack_after s [] (suc n) = s
stack_after s (t ∷ ts) (suc n) = stack_after (after_token t.kind ts s) ts n

-- the greatest size of the stack
abbrev pub nesting_from : List Entry → List Token → ℕ
nesting_from s [] = length s
nesting_from s (t ∷ ts) = max (length s) (nesting_from (after_token t.kind ts s) ts)

-- how deep the tokens nest: the greatest size of the stack, which is empty before them
abbrev pub nesting_of : List Token → ℕ
nesting_of ts = nesting_from [] ts

-- token k, counted from 0, is the first after which the stack holds more than 128 entries
pub record IsTooDeep (ts : List Token) (k : ℕ) : Type 0 where
  pub within : k < length ts
  pub deep : 128 < length (stack_after [] ts (suc k))
  pub first : (i : ℕ) → i < k → length (stack_after [] ts (suc i)) ≤ 128
