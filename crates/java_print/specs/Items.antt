-- Believed. What a text is made of: tokens, spaces, ends of lines and margins.
use Rattle.std.specs.Prelude.{ℕ, List, [], ◌∷◌, ◌++◌, replicate, unsigned_abs}
use Rattle.std.specs.Char.Utf16.{utf16_lossy_chars}
use Rattle.std.specs.List.{flat_map}
use Rattle.std.specs.Fmt.{decimal}
use Rattle.kaba_base.specs.Words.{key_text}
use Rattle.java_lex.specs.declared.TokenKind.{TokenKind}
use Rattle.java_lex.specs.declared.TokenKind.TheVariants as kinds
use Rattle.java_lex.specs.Spelling.{mark_text}
use Rattle.java_lex.specs.Printing.{written}

-- the characters that code units spell, each with an escape written by it
abbrev pub units_written : List ℕ → List ℕ
units_written us = flat_map written (utf16_lossy_chars us)

-- how each kind of token is written
abbrev pub kind_text : TokenKind → List ℕ
kind_text (kinds.Word n) = n
kind_text (kinds.Key k) = key_text k
kind_text (kinds.Int z) = decimal (unsigned_abs z)
kind_text kinds.Least = decimal 2147483648
kind_text (kinds.Char u) = 39 ∷ (units_written (u ∷ []) ++ 39 ∷ [])
kind_text (kinds.Str us) = 34 ∷ (units_written us ++ 34 ∷ [])
kind_text (kinds.Mark m) = mark_text m

-- a piece of a text as it is laid out
pub data Item : Type 0 where
  -- a token
  Lexeme : TokenKind → Item
  -- one space
  Space : Item
  -- the end of a line
  End : Item
  -- as many spaces at the beginning of a line
  Margin : ℕ → Item

-- the characters of the items
abbrev pub text : List Item → List ℕ
text [] = []
text (Lexeme k ∷ r) = kind_text k ++ text r
text (Space ∷ r) = 32 ∷ text r
text (End ∷ r) = 10 ∷ text r
text (Margin n ∷ r) = replicate n 32 ++ text r

-- the kinds of their tokens
abbrev pub kinds_in : List Item → List TokenKind
kinds_in [] = []
kinds_in (Lexeme k ∷ r) = k ∷ kinds_in r
kinds_in (Space ∷ r) = kinds_in r
kinds_in (End ∷ r) = kinds_in r
kinds_in (Margin n ∷ r) = kinds_in r
