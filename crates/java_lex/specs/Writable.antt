-- Believed. The kinds of tokens that some text has.
use Rattle.std.specs.Prelude.{◌≡◌, ℕ, ◌<◌, true, List, [], ◌∷◌, ℤ, pos}
use Rattle.std.specs.List.{flat_map}
use Rattle.std.specs.Str.{all_scalars}
use Rattle.std.specs.Char.Escape.{encode_utf16}
use Rattle.kaba_base.specs.Words.{is_name}
use Rattle.java_lex.specs.declared.Token.{Token}
use Rattle.java_lex.specs.declared.TokenKind.{TokenKind}
use Rattle.java_lex.specs.declared.TokenKind.TheVariants as kinds

-- the characters of an identifier that is no keyword
pub record IsName (w : List ℕ) : Type 0 where
  pub named : is_name w ≡ true
  pub scalars : all_scalars w ≡ true

-- units that characters spell
pub record IsText (us : List ℕ) : Type 0 where
  pub spelt : List ℕ
  pub scalars : all_scalars spelt ≡ true
  pub units : us ≡ flat_map encode_utf16 spelt

-- the value of a number
pub record IsSmall (z : ℤ) : Type 0 where
  pub value : ℕ
  pub is : z ≡ pos value
  pub small : value < 2147483648

-- the value of a character literal: a code unit that is a whole character
pub record IsUnit (u : ℕ) : Type 0 where
  pub scalar : all_scalars (u ∷ []) ≡ true
  pub small : u < 65536

-- some text has a token of this kind, as its name, number, character or string can be written
abbrev pub IsWritable : TokenKind → Type 0
IsWritable (kinds.Word w) = IsName w
IsWritable (kinds.Int z) = IsSmall z
IsWritable (kinds.Char u) = IsUnit u
IsWritable (kinds.Str us) = IsText us
IsWritable (kinds.Key k) = Unit {0}
IsWritable kinds.Least = Unit {0}
IsWritable (kinds.Mark m) = Unit {0}

-- some text has each of these tokens
abbrev pub AllWritable : List Token → Type 0
AllWritable [] = Unit {0}
AllWritable (t ∷ ts) = IsWritable t.kind × AllWritable ts
