-- A text has at most as many tokens as bytes.
use Rattle.std.proofs.Common.{◌≡◌, ℕ, zero, suc, ◌≤◌, List, [], ◌∷◌, length, Ok, Err, Bool, true, false, arith, sym, subst, ◌∙◌, refl}
use Rattle.std.specs.Str.{chars, is_utf8}
use Rattle.std.proofs.lemmas.Str.{IsUtf8-from_is_utf8}
use Rattle.kaba_base.specs.declared.Place.{Place}
use Rattle.java_lex.specs.declared.Token.{Token}
use Rattle.java_lex.specs.declared.scan.Piece.{Piece}
use Rattle.java_lex.specs.declared.scan.Piece.TheVariants.{Gap, Part, Fault}
use Rattle.java_lex.specs.Piece.{piece_of}
use Rattle.java_lex.specs.Lexing.{LexOutcome, lexed, past, led, token, from_piece, start, tokens_of}
use Rattle.java_lex.proofs.Reading.{tokens_ok, length-le-width, width-chars}

abbrev pub AtMost : LexOutcome → ℕ → Type 0
AtMost (Ok ts) n = length ts ≤ n
AtMost (Err f) n = Unit {0}

one_more : (t : Token) (o : LexOutcome) (n : ℕ) → AtMost o n → AtMost (led (t ∷ []) o) (suc n)
one_more t (Ok ts) n h = omega (arith, h)
one_more t (Err f) n h = tt

grown : (o : LexOutcome) (n : ℕ) → AtMost o n → AtMost o (suc n)
grown (Ok ts) n h = omega (arith, h)
grown (Err f) n h = tt

after : (q : Piece) (p : Place) (cs : List ℕ) (next : ℕ → LexOutcome) (n : ℕ) → ((m : ℕ) → AtMost (next m) n) → AtMost (from_piece q p cs next) (suc n)
after (Gap m) p cs next n h = grown (next m) n (h m)
after (Part k m) p cs next n h = one_more (token k p) (next m) n (h m)
after (Fault f m) p cs next n h = tt

pub few-lexed : (cs : List ℕ) (n : ℕ) (p : Place) → AtMost (lexed cs n p) (length cs)
few-lexed [] n p = omega arith
few-lexed (c ∷ cs) (suc n) p = grown (lexed cs n (past p c)) (length cs) (few-lexed cs n (past p c))
few-lexed (c ∷ cs) zero p = after (piece_of c cs) p (c ∷ cs) (λ n. lexed cs n (past p c)) (length cs) (λ n. few-lexed cs n (past p c))

few-if : (b : Bool) (bs : List ℕ) (ts : List Token) → is_utf8 bs ≡ b → tokens_of bs ≡ Ok ts → length ts ≤ length bs
few-if true bs ts h e =
    let u = IsUtf8-from_is_utf8 bs h in
    let few : length ts ≤ length (chars bs) = subst (λ o. AtMost o (length (chars bs))) (sym (tokens_ok bs u) ∙ e) (few-lexed (chars bs) 0 start) in
    omega (arith, few, length-le-width (chars bs), width-chars bs u)
few-if false bs ts h e = cc

-- the tokens of a text are at most as many as its bytes
pub few-tokens : (bs : List ℕ) (ts : List Token) → tokens_of bs ≡ Ok ts → length ts ≤ length bs
few-tokens bs ts e = few-if (is_utf8 bs) bs ts refl e
