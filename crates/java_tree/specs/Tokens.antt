-- Believed. Tokens as the grammar speaks of them.
use Rattle.std.specs.Prelude.{ℕ, List, [], ◌∷◌, Bool, true, false, Option, Some, None}
use Rattle.kaba_base.specs.declared.Place.{Place}
use Rattle.kaba_base.specs.declared.words.Keyword.{Keyword}
use Rattle.kaba_base.specs.declared.words.Keyword.TheVariants as keys
use Rattle.java_lex.specs.declared.Token.{Token}
use Rattle.java_lex.specs.declared.TokenKind.{TokenKind}
use Rattle.java_lex.specs.declared.TokenKind.TheVariants as kinds
use Rattle.java_lex.specs.declared.Mark.{Mark}
use Rattle.java_lex.specs.declared.Mark.TheVariants as marks
use Rattle.java_lex.specs.Lexing.{token}
use Rattle.java_tree.specs.Places.{nowhere}

-- the token of a mark at a place
abbrev pub mark : Mark → Place → Token
mark m p = token (kinds.Mark m) p

-- the token of a keyword at a place
abbrev pub key : Keyword → Place → Token
key k p = token (kinds.Key k) p

-- the token of a name at a place
abbrev pub word : List ℕ → Place → Token
word n p = token (kinds.Word n) p

-- the place of the first token
abbrev pub first_place : List Token → Place
first_place [] = nowhere
first_place (t ∷ ts) = t.place

-- how tightly a binary operator binds, from the loosest; 0 where the mark is none
abbrev pub level : Mark → ℕ
level marks.Either = 1
level marks.Both = 2
level marks.Or = 3
level marks.Xor = 4
level marks.And = 5
level marks.Equal = 6
level marks.NotEqual = 6
level marks.Less = 7
level marks.Greater = 7
level marks.AtMost = 7
level marks.AtLeast = 7
level marks.ShiftLeft = 8
level marks.ShiftRight = 8
level marks.ShiftRightLogical = 8
level marks.Plus = 9
level marks.Minus = 9
level marks.Star = 10
level marks.Slash = 10
level marks.Percent = 10
level marks.OpenRound = 0
level marks.CloseRound = 0
level marks.OpenBrace = 0
level marks.CloseBrace = 0
level marks.OpenSquare = 0
level marks.CloseSquare = 0
level marks.Semi = 0
level marks.Comma = 0
level marks.Dot = 0
level marks.Assign = 0
level marks.Flip = 0
level marks.Bang = 0
level marks.PlusAssign = 0
level marks.MinusAssign = 0
level marks.StarAssign = 0
level marks.SlashAssign = 0
level marks.PercentAssign = 0
level marks.PlusPlus = 0
level marks.MinusMinus = 0

-- the prefix operators
abbrev pub is_sign : Mark → Bool
is_sign marks.Plus = true
is_sign marks.Minus = true
is_sign marks.Bang = true
is_sign marks.Flip = true
is_sign _ = false

-- the operator of a compound assignment
abbrev pub compound : Mark → Option Mark
compound marks.PlusAssign = Some marks.Plus
compound marks.MinusAssign = Some marks.Minus
compound marks.StarAssign = Some marks.Star
compound marks.SlashAssign = Some marks.Slash
compound marks.PercentAssign = Some marks.Percent
compound _ = None

-- the operator of `++` and of `--`
abbrev pub stepping : Mark → Option Mark
stepping marks.PlusPlus = Some marks.Plus
stepping marks.MinusMinus = Some marks.Minus
stepping _ = None

-- the modifiers
abbrev pub is_modifier : Keyword → Bool
is_modifier keys.Public = true
is_modifier keys.Protected = true
is_modifier keys.Private = true
is_modifier keys.Abstract = true
is_modifier keys.Static = true
is_modifier keys.Final = true
is_modifier _ = false

-- the tokens that make a name in round brackets before them a cast
abbrev pub casts_kind : TokenKind → Bool
casts_kind (kinds.Word n) = true
casts_kind (kinds.Int v) = true
casts_kind (kinds.Char c) = true
casts_kind (kinds.Str u) = true
casts_kind (kinds.Mark marks.OpenRound) = true
casts_kind (kinds.Mark marks.Bang) = true
casts_kind (kinds.Mark marks.Flip) = true
casts_kind (kinds.Key keys.This) = true
casts_kind (kinds.Key keys.Super) = true
casts_kind (kinds.Key keys.New) = true
casts_kind (kinds.Key keys.True) = true
casts_kind (kinds.Key keys.False) = true
casts_kind (kinds.Key keys.Null) = true
casts_kind _ = false

-- whether the next token makes a name in round brackets before it a cast
abbrev pub casts : List Token → Bool
casts [] = false
casts (t ∷ ts) = casts_kind t.kind
