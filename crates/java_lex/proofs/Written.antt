-- What a text has can be written.
use Rattle.std.proofs.Common.{◌≡◌, ℕ, zero, suc, ◌+◌, ◌<◌, ◌≤◌, ◌==◌, ◌&&◌, Bool, true, false, List, [], ◌∷◌, ◌++◌, take, drop, Option, Some, None, Ok, Err, refl, ap, sym, subst, ◌∙◌, arith, one-add, codes, pos, nat_lt, inl, inr}
use Rattle.std.proofs.lemmas.Bool.{and_parts, and_from, cond_both, eqb-false, ltb-true, ltb-false, cases_Bool, cond-true, cond-false}
use Rattle.std.specs.List.{take_while, prefix_len, list_all}
use Rattle.std.specs.Char.Escape.{encode_utf16}
use Rattle.std.specs.Str.{all_scalars, is_utf8, chars}
use Rattle.std.proofs.lemmas.Str.{scalars-chars, IsUtf8-from_is_utf8}
use Rattle.std.specs.Char.{is_ascii_digit}
use Rattle.std.specs.Str.Parse.{digits_value_after}
use Rattle.kaba_base.specs.declared.Place.{Place}
use Rattle.java_lex.specs.declared.Token.{Token}
use Rattle.java_lex.specs.declared.TokenKind.{TokenKind}
use Rattle.java_lex.specs.declared.TokenKind.TheVariants as kinds
use Rattle.kaba_base.specs.declared.Keyword.{Keyword}
use Rattle.java_lex.specs.declared.Mark.{Mark}
use Rattle.java_lex.specs.declared.scan.Piece.{Piece}
use Rattle.java_lex.specs.declared.scan.Piece.TheVariants.{Gap, Part, Fault}
use Rattle.java_lex.specs.declared.scan.Quoted.{Quoted}
use Rattle.java_lex.specs.declared.scan.Quoted.TheVariants.{Closed, Open, Wrong}
use Rattle.java_lex.specs.Chars.{is_blank, is_line_end, is_front}
use Rattle.kaba_base.specs.Words.{is_start, is_part, next_is, is_none}
use Rattle.java_lex.specs.Spelling.{mark_of}
use Rattle.kaba_base.specs.Words.{key_of}
use Rattle.java_lex.specs.Piece.{piece_of, word_piece, word_kind, number_in, number_piece, number_kind, more_digits, string_piece, quoted, behind, behind_escape, escaped, char_piece, char_escape, comment_piece, comment_end, mark_piece}
use Rattle.java_lex.specs.Lexing.{LexOutcome, lexed, past, led, token, from_piece, tokens_of, start}
use Rattle.java_lex.specs.Writable.{IsText, IsUnit, IsWritable, AllWritable}

abbrev Good : Piece → Type 0
Good (Part k n) = IsWritable k
Good _ = Unit {0}

one : (p : ℕ → Bool) (c : ℕ) (cs : List ℕ) → p c ≡ true → list_all p (take_while p cs) ≡ true → list_all p (take (1 + prefix_len p cs) (c ∷ cs)) ≡ true
one p c cs h k = ap (λ n. list_all p (take n (c ∷ cs))) (one-add (prefix_len p cs)) ∙ and_from _ _ h k

while_all : (p : ℕ → Bool) (cs : List ℕ) → list_all p (take_while p cs) ≡ true
while_all p [] = refl
while_all p (c ∷ cs) = cond_both (p c) (1 + prefix_len p cs) 0 (λ n. list_all p (take n (c ∷ cs)) ≡ true) (λ h. one p c cs h (while_all p cs)) (λ h. refl)

while_scalars : (n : ℕ) (cs : List ℕ) → all_scalars cs ≡ true → all_scalars (take n cs) ≡ true
while_scalars zero cs h = refl
while_scalars (suc n) [] h = refl
while_scalars (suc n) (c ∷ cs) h = let q = and_parts _ _ h in and_from _ _ q.0 (while_scalars n cs q.1)

word_by : (c : ℕ) (cs : List ℕ) (o : Option Keyword) (n : ℕ) → key_of (c ∷ take_while is_part cs) ≡ o → all_scalars (c ∷ cs) ≡ true
    → is_start c ≡ true → Good (Part (word_kind (c ∷ take_while is_part cs) o) n)
word_by c cs (Some k) n e s h = tt
word_by c cs None n e s h = let q = and_parts _ _ s in record {
  named = and_from _ _ (and_from _ _ h (while_all is_part cs)) (ap is_none e);
  scalars =
      and_from _ _ q.0 (while_scalars (prefix_len is_part cs) cs q.1);
}

number_kind_good : (v : ℕ) → v ≤ 2147483648 → IsWritable (number_kind v)
number_kind_good v h = cond_both (v == 2147483648) kinds.Least (kinds.Int (pos v)) IsWritable (λ e. tt)
    (λ e. let ne = eqb-false v 2147483648 e in record { value = v; is = refl; small = omega (arith, ne) })

number_good : (v n : ℕ) (b : Bool) → Good (number_piece v n b)
number_good v n b = cond_both (nat_lt 2147483648 v) _ _ Good (λ h. tt)
    (λ h. cond_both b _ _ Good (λ k. tt) (λ k. number_kind_good v (ltb-false 2147483648 v h)))

abbrev Fair : Quoted → Type 0
Fair (Closed us n) = IsText us
Fair _ = Unit {0}

behind_fair : (c n : ℕ) (us : List ℕ) (q : Quoted) → all_scalars (c ∷ []) ≡ true → us ≡ encode_utf16 c → Fair q → Fair (behind us n q)
behind_fair c n us (Closed vs m) s e f = record {
  spelt = c ∷ f.spelt;
  scalars = and_from _ _ (and_parts _ _ s).0 f.scalars;
  units = ap (λ xs. xs ++ vs) e ∙ ap (λ xs. encode_utf16 c ++ xs) f.units;
}
behind_fair c n us Open s e f = tt
behind_fair c n us (Wrong m) s e f = tt

abbrev Plain : Option ℕ → Type 0
Plain None = Unit {0}
Plain (Some u) = IsUnit u × (u ∷ [] ≡ encode_utf16 u)

unit : (u : ℕ) → all_scalars (u ∷ []) ≡ true → u < 65536 → u ∷ [] ≡ encode_utf16 u → Plain (Some u)
unit u s h e = (record { scalar = s; small = h }, e)

escaped_plain : (d : ℕ) → Plain (escaped d)
escaped_plain d =
    cond_both (d == 98) _ _ Plain (λ h. unit 8 refl (omega arith) refl) (λ h.
    cond_both (d == 116) _ _ Plain (λ h. unit 9 refl (omega arith) refl) (λ h.
    cond_both (d == 110) _ _ Plain (λ h. unit 10 refl (omega arith) refl) (λ h.
    cond_both (d == 102) _ _ Plain (λ h. unit 12 refl (omega arith) refl) (λ h.
    cond_both (d == 114) _ _ Plain (λ h. unit 13 refl (omega arith) refl) (λ h.
    cond_both (d == 34) _ _ Plain (λ h. unit 34 refl (omega arith) refl) (λ h.
    cond_both (d == 39) _ _ Plain (λ h. unit 39 refl (omega arith) refl) (λ h.
    cond_both (d == 92) _ _ Plain (λ h. unit 92 refl (omega arith) refl) (λ h. tt))))))))

escape_fair : (o : Option ℕ) (q : Quoted) → Plain o → Fair q → Fair (behind_escape o q)
escape_fair (Some u) q p f = behind_fair u 2 (u ∷ []) q p.0.scalar p.1 f
escape_fair None q p f = tt

closed_fair : IsText []
closed_fair = record { spelt = []; scalars = refl; units = refl }

quoted_fair : (cs : List ℕ) → all_scalars cs ≡ true → Fair (quoted cs)
quoted_fair [] s = tt
quoted_fair (c ∷ []) s = cond_both (c == 34) _ _ Fair (λ h. closed_fair) (λ h. cond_both (is_line_end c) _ _ Fair (λ k. tt)
    (λ k. cond_both (c == 92) _ _ Fair (λ l. tt) (λ l. tt)))
quoted_fair (c ∷ d ∷ cs) s =
    let p = and_parts _ _ s in let q = and_parts _ _ p.1 in
    cond_both (c == 34) _ _ Fair (λ h. closed_fair) (λ h. cond_both (is_line_end c) _ _ Fair (λ k. tt) (λ k. cond_both (c == 92) _ _ Fair
    (λ l. escape_fair (escaped d) (quoted cs) (escaped_plain d) (quoted_fair cs q.1))
    (λ l. behind_fair c 1 (encode_utf16 c) (quoted (d ∷ cs)) (and_from _ _ p.0 refl) refl (quoted_fair (d ∷ cs) p.1))))

string_good : (q : Quoted) → Fair q → Good (string_piece q)
string_good (Closed us n) f = f
string_good Open f = tt
string_good (Wrong n) f = tt

escape_good : (o : Option ℕ) (b : Bool) → Plain o → Good (char_escape o b)
escape_good (Some u) true p = p.0
escape_good (Some u) false p = tt
escape_good None b p = tt

char_good : (cs : List ℕ) → all_scalars cs ≡ true → Good (char_piece cs)
char_good [] s = tt
char_good (c ∷ []) s = tt
char_good (c ∷ d ∷ cs) s = cond_both (c == 39) _ _ Good (λ h. tt) (λ h. cond_both (is_line_end c) _ _ Good (λ h. tt) (λ h. cond_both (c == 92) _ _ Good
    (λ k. escape_good (escaped d) _ (escaped_plain d))
    (λ k. cond_both ((d == 39) && nat_lt c 65536) _ _ Good (λ l. record {
      scalar = and_from _ _ (and_parts _ _ s).0 refl;
      small = ltb-true c 65536
          (and_parts (d == 39) (nat_lt c 65536) l).1;
    }) (λ l. tt))))

comment_good : (o : Option ℕ) → Good (comment_piece o)
comment_good None = tt
comment_good (Some n) = tt

mark_good : (o : Option Mark) → Good (mark_piece o)
mark_good None = tt
mark_good (Some m) = tt

number_in_good : (all : List ℕ) (n : ℕ) → Good (number_in all n)
number_in_good all n = number_good (digits_value_after 10 0 (take (n + 1) all)) n (next_is is_part (drop (n + 1) all))

-- as a record, so that its argument is found
record Fine (q : Piece) : Type 0 where
  good : Good q

fine : (q : Piece) → Good q → Fine q
fine q g = record { good = g }

piece_fine : (c : ℕ) (cs : List ℕ) → all_scalars (c ∷ cs) ≡ true → Fine (piece_of c cs)
unfolding piece_of
piece_fine c cs s =
    cond_both (is_blank c) _ _ Fine (λ h. fine _ tt) (λ h.
    cond_both (is_start c) _ _ Fine (λ k. fine (word_piece (c ∷ take_while is_part cs) (prefix_len is_part cs))
    (word_by c cs (key_of (c ∷ take_while is_part cs)) (prefix_len is_part cs) refl s k)) (λ k.
    cond_both (is_ascii_digit c) _ _ Fine (λ l. fine _ (number_in_good (c ∷ cs) (more_digits c cs))) (λ l.
    cond_both (c == 34) _ _ Fine (λ m. fine _ (string_good (quoted cs) (quoted_fair cs (and_parts _ _ s).1))) (λ m.
    cond_both (c == 39) _ _ Fine (λ n. fine _ (char_good cs (and_parts _ _ s).1)) (λ n.
    cond_both (is_front (codes "//") (c ∷ cs)) _ _ Fine (λ o. fine _ tt) (λ o. cond_both (is_front (codes "/*") (c ∷ cs)) _ _ Fine
    (λ o. fine _ (comment_good (comment_end (drop 1 cs)))) (λ o. fine _ (mark_good (mark_of (c ∷ cs))))))))))

piece_good : (c : ℕ) (cs : List ℕ) → all_scalars (c ∷ cs) ≡ true → Good (piece_of c cs)
piece_good c cs s = (piece_fine c cs s).good

abbrev pub GoodOutcome : LexOutcome → Type 0
GoodOutcome (Ok ts) = AllWritable ts
GoodOutcome (Err f) = Unit {0}

led_good : (k : TokenKind) (p : Place) (o : LexOutcome) → IsWritable k → GoodOutcome o → GoodOutcome (led (token k p ∷ []) o)
led_good k p (Ok ts) g h = (g, h)
led_good k p (Err f) g h = tt

from_good : (q : Piece) (p : Place) (cs : List ℕ) (next : ℕ → LexOutcome) → Good q → ((n : ℕ) → GoodOutcome (next n)) → GoodOutcome (from_piece q p cs next)
from_good (Gap n) p cs next g h = h n
from_good (Part k n) p cs next g h = led_good k p (next n) g (h n)
from_good (Fault f n) p cs next g h = tt

-- the tokens of characters can be written
pub lexed_good : (cs : List ℕ) (n : ℕ) (p : Place) → all_scalars cs ≡ true → GoodOutcome (lexed cs n p)
lexed_good [] n p s = tt
lexed_good (c ∷ cs) (suc n) p s = lexed_good cs n (past p c) (and_parts _ _ s).1
lexed_good (c ∷ cs) zero p s = from_good (piece_of c cs) p (c ∷ cs) (λ n. lexed cs n (past p c)) (piece_good c cs s)
    (λ n. lexed_good cs n (past p c) (and_parts _ _ s).1)

good_along : (o : LexOutcome) (ts : List Token) → GoodOutcome o → o ≡ Ok ts → AllWritable ts
good_along o ts g e = subst GoodOutcome e g

-- the tokens of a text can be written
pub text_good : (bytes : List ℕ) (ts : List Token) → tokens_of bytes ≡ Ok ts → AllWritable ts
text_good bytes ts e = good_along (tokens_of bytes) ts
    (elim (cases_Bool (is_utf8 bytes)) as (λ _. GoodOutcome (tokens_of bytes)) [
      | inl h ↦ subst GoodOutcome (sym (cond-true (is_utf8 bytes) _ _ h)) (lexed_good (chars bytes) 0 start (scalars-chars bytes (IsUtf8-from_is_utf8 bytes h)))
      | inr h ↦ subst GoodOutcome (sym (cond-false (is_utf8 bytes) _ _ h)) tt
    ]) e
