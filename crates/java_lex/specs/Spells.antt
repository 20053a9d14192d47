-- Mirror. Characters that are read as tokens of given kinds.
use Rattle.std.specs.Prelude.{◌≡◌, ℕ, List, ◌++◌, map, Result, Ok, Err}
use Rattle.kaba_base.specs.declared.Place.{Place}
use Rattle.java_lex.specs.declared.Token.{Token}
use Rattle.java_lex.specs.declared.TokenKind.{TokenKind}
use Rattle.java_lex.specs.declared.LexFault.{LexFault}
use Rattle.java_lex.specs.Lexing.{LexOutcome, lexed}

-- the kind of a token
abbrev pub kind_of : Token → TokenKind
kind_of t = t.kind

-- an outcome of lexing with the kinds of its tokens alone
abbrev pub kinds_of : LexOutcome → Result (List TokenKind) LexFault
kinds_of (Ok ts) = Ok (map kind_of ts)
kinds_of (Err f) = Err f

-- such an outcome with these kinds before its own; a fault stays as it is
abbrev pub kinds_led : List TokenKind → Result (List TokenKind) LexFault → Result (List TokenKind) LexFault
kinds_led ks (Ok ls) = Ok (ks ++ ls)
kinds_led ks (Err f) = Err f

-- the characters are read as tokens of these kinds, wherever they stand
pub record Spells (cs : List ℕ) (ks : List TokenKind) : Type 0 where
  pub reads : (p : Place) → kinds_of (lexed cs 0 p) ≡ Ok ks
