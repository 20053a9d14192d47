-- Believed. The tokens of a text, and its first fault.
use Rattle.std.specs.Prelude.{◌≡◌, ℕ, zero, suc, ◌+◌, ◌==◌, List, [], ◌∷◌, ◌++◌, take, count_by, Result, Ok, Err, if◌then◌else◌}
use Rattle.std.specs.Char.{len_utf8}
use Rattle.std.specs.Str.{chars, is_utf8}
use Rattle.std.specs.Str.Lossy.{utf8_valid_len}
use Rattle.std.specs.declared.vec.Vec.{Vec}
use Rattle.std.specs.declared.alloc.Global.{Global}
use Rattle.kaba_base.specs.declared.Place.{Place}
use Rattle.java_lex.specs.declared.Token.{Token}
use Rattle.java_lex.specs.declared.TokenKind.{TokenKind}
use Rattle.java_lex.specs.declared.scan.Piece.{Piece}
use Rattle.java_lex.specs.declared.scan.Piece.TheVariants.{Gap, Part, Fault}
use Rattle.java_lex.specs.declared.scan.FaultKind.{FaultKind}
use Rattle.java_lex.specs.declared.scan.FaultKind.TheVariants as kinds
use Rattle.java_lex.specs.declared.LexFault.{LexFault}
use Rattle.java_lex.specs.declared.LexFault.TheVariants as faults
use Rattle.java_lex.specs.Piece.{piece_of}

-- what lexing comes to: the tokens, or the first fault
abbrev pub LexOutcome : Type 0
LexOutcome = Result (List Token) LexFault

-- the place behind a character
abbrev pub past : Place → ℕ → Place
past p c = record { at = p.at + len_utf8 c; line = if c == 10 then p.line + 1 else p.line }

-- the place behind all these characters, the first of which stands at p
abbrev pub moved : Place → List ℕ → Place
moved p [] = p
moved p (c ∷ cs) = moved (past p c) cs

-- how many bytes the characters take
abbrev pub width : List ℕ → ℕ
width [] = 0
width (c ∷ cs) = len_utf8 c + width cs

-- the place of the first character of a text: byte 0, line 1
abbrev pub start : Place
start = record { at = 0; line = 1 }

-- the fault of this kind at this place
abbrev pub fault_at : FaultKind → Place → LexFault
fault_at kinds.BadByte p = faults.BadByte p
fault_at kinds.OpenComment p = faults.OpenComment p
fault_at kinds.OpenString p = faults.OpenString p
fault_at kinds.BigLiteral p = faults.BigLiteral p

-- an outcome with these tokens before its own; a fault stays as it is
abbrev pub led : List Token → LexOutcome → LexOutcome
led ts (Ok us) = Ok (ts ++ us)
led ts (Err f) = Err f

-- the token of this kind at this place
abbrev pub token : TokenKind → Place → Token
token k p = record { kind = k; place = p }

-- what follows from the piece at p: `next n` reads on after n more characters
abbrev pub from_piece : Piece → Place → List ℕ → (ℕ → LexOutcome) → LexOutcome
from_piece (Gap n) p cs next = next n
from_piece (Part k n) p cs next = led (token k p ∷ []) (next n)
from_piece (Fault f n) p cs next = Err (fault_at f (moved p (take n cs)))

-- the tokens of the characters from the place p on, of which the first n belong to the piece before
abbrev pub lexed : List ℕ → ℕ → Place → LexOutcome
lexed [] n p = Ok []
lexed (c ∷ cs) (suc n) p = lexed cs n (past p c)
lexed (c ∷ cs) zero p = from_piece (piece_of c cs) p (c ∷ cs) (λ n. lexed cs n (past p c))

-- the place of the n-th byte
abbrev pub byte_place : List ℕ → ℕ → Place
byte_place bytes n = record { at = n; line = 1 + count_by (λ b. b == 10) (take n bytes) }

-- the tokens of a text in bytes, or its first fault, which is the first wrong byte where they are no UTF-8
abbrev pub tokens_of : List ℕ → LexOutcome
tokens_of bytes = if is_utf8 bytes then lexed (chars bytes) 0 start else Err (faults.BadByte (byte_place bytes (utf8_valid_len bytes)))

-- the call gave this, or there was no memory
abbrev pub GivesTokens : Result (Vec Token Global) LexFault → LexOutcome → Type 0
GivesTokens (Ok v) o = o ≡ Ok v.items
GivesTokens (Err faults.Memory) o = Unit {0}
GivesTokens (Err f) o = o ≡ Err f
