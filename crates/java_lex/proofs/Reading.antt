-- The loop over the pieces.
use Rattle.std.proofs.Common.{◌≡◌, ℕ, ◌+◌, ◌-◌, ◌≤◌, ◌<◌, List, [], ◌∷◌, ◌++◌, length, take, drop, Result, Ok, Err, refl, ap, sym, subst, ◌∙◌, arith, add-one, zero-add, get_or, append_assoc, length-append}
use Rattle.std.proofs.lemmas.List.{take-append-drop, length-take-le, drop_more, take_rest}
use Rattle.std.proofs.lemmas.Str.{length-encode, len_utf8_bounds, encodes-chars, is_utf8-from_IsUtf8, IsUtf8-from_is_utf8}
use Rattle.std.specs.Char.{len_utf8, encode_utf8}
use Rattle.std.specs.Str.{encode_utf8_all, chars, IsUtf8, is_utf8}
use Rattle.std.specs.Str.Lossy.{utf8_valid_len}
use Rattle.std.proofs.lemmas.Bool.{cond-true, cond-false, false_from_ne_true}
use Rattle.std.specs.declared.vec.Vec.{Vec}
use Rattle.std.specs.declared.alloc.Global.{Global}
use Rattle.java_lex.specs.declared.LexFault.TheVariants as faults
use Rattle.kaba_base.specs.declared.Place.{Place}
use Rattle.java_lex.specs.declared.Token.{Token}
use Rattle.java_lex.specs.declared.TokenKind.{TokenKind}
use Rattle.java_lex.specs.declared.scan.FaultKind.{FaultKind}
use Rattle.java_lex.specs.declared.LexFault.{LexFault}
use Rattle.java_lex.specs.declared.scan.Piece.{Piece}
use Rattle.java_lex.specs.declared.scan.Piece.TheVariants.{Gap, Part, Fault}
use Rattle.java_lex.specs.Piece.{piece_of, piece_at, reach}
use Rattle.java_lex.specs.Lexing.{LexOutcome, lexed, moved, past, width, led, token, from_piece, fault_at, tokens_of, start, byte_place, GivesTokens}
use Rattle.java_lex.proofs.Skips.{skipped}

pub skip : (n : ℕ) (xs : List ℕ) (p : Place) → n ≤ length xs → lexed xs n p ≡ lexed (drop n xs) 0 (moved p (take n xs))
skip n xs p h =
    ap (λ ys. lexed ys n p) (sym (take-append-drop n xs))
    ∙ ap (λ m. lexed (take n xs ++ drop n xs) m p) (sym (length-take-le n xs h))
    ∙ skipped (take n xs) (drop n xs) p

pub led_led : (us vs : List Token) (o : LexOutcome) → led us (led vs o) ≡ led (us ++ vs) o
led_led us vs (Ok ws) = ap Ok (sym (append_assoc us vs ws))
led_led us vs (Err f) = refl

pub gap_step : (all rest : List ℕ) (c n : ℕ) (p : Place) (ts : List Token) → all ≡ c ∷ rest → Gap n ≡ piece_of c rest → n ≤ length rest
    → led ts (lexed (drop (n + 1) all) 0 (moved p (take (n + 1) all))) ≡ led ts (lexed all 0 p)
gap_step all rest c n p ts e f h =
    ap (λ xs. led ts (lexed (drop (n + 1) xs) 0 (moved p (take (n + 1) xs)))) e
    ∙ ap (λ m. led ts (lexed (drop m (c ∷ rest)) 0 (moved p (take m (c ∷ rest))))) (add-one n)
    ∙ ap (led ts) (sym (skip n rest (past p c) h))
    ∙ ap (λ q. led ts (from_piece q p (c ∷ rest) (λ m. lexed rest m (past p c)))) f
    ∙ ap (λ xs. led ts (lexed xs 0 p)) (sym e)

pub part_step : (all rest : List ℕ) (c n : ℕ) (p : Place) (ts us : List Token) (k : TokenKind) → us ≡ ts ++ token k p ∷ [] → all ≡ c ∷ rest
    → Part k n ≡ piece_of c rest → n ≤ length rest
    → led us (lexed (drop (n + 1) all) 0 (moved p (take (n + 1) all))) ≡ led ts (lexed all 0 p)
part_step all rest c n p ts us k g e f h =
    ap (λ ws. led ws (lexed (drop (n + 1) all) 0 (moved p (take (n + 1) all)))) g
    ∙ sym (led_led ts (token k p ∷ []) (lexed (drop (n + 1) all) 0 (moved p (take (n + 1) all))))
    ∙ ap (λ xs. led ts (led (token k p ∷ []) (lexed (drop (n + 1) xs) 0 (moved p (take (n + 1) xs))))) e
    ∙ ap (λ m. led ts (led (token k p ∷ []) (lexed (drop m (c ∷ rest)) 0 (moved p (take m (c ∷ rest)))))) (add-one n)
    ∙ ap (λ o. led ts (led (token k p ∷ []) o)) (sym (skip n rest (past p c) h))
    ∙ ap (λ q. led ts (from_piece q p (c ∷ rest) (λ m. lexed rest m (past p c)))) f
    ∙ ap (λ xs. led ts (lexed xs 0 p)) (sym e)

abbrev pub fails : LexFault → LexOutcome
fails f = Err f

pub fault_step : (all rest : List ℕ) (c n : ℕ) (p : Place) (ts : List Token) (k : FaultKind) → all ≡ c ∷ rest → Fault k n ≡ piece_of c rest
    → led ts (lexed all 0 p) ≡ Err (fault_at k (moved p (take n all)))
fault_step all rest c n p ts k e f =
    ap (λ xs. led ts (lexed xs 0 p)) e
    ∙ ap (λ q. led ts (from_piece q p (c ∷ rest) (λ m. lexed rest m (past p c)))) (sym f)
    ∙ ap (λ xs. fails (fault_at k (moved p (take n xs)))) (sym e)

pub width-append : (xs ys : List ℕ) → width (xs ++ ys) ≡ width xs + width ys
width-append [] ys = sym (zero-add (width ys))
width-append (x ∷ xs) ys = omega (arith, width-append xs ys)

pub width_split : (n : ℕ) (xs : List ℕ) → width (take n xs) + width (drop n xs) ≡ width xs
width_split n xs = sym (width-append (take n xs) (drop n xs)) ∙ ap width (take-append-drop n xs)

pub width-encodes : (cs : List ℕ) → width cs ≡ length (encode_utf8_all cs)
width-encodes [] = refl
width-encodes (c ∷ cs) = omega (arith, width-encodes cs, length-append (encode_utf8 c) (encode_utf8_all cs), length-encode c)

-- one more character
pub moved_step : (xs : List ℕ) (i d : ℕ) (p : Place) → i < length xs → moved p (drop i xs) ≡ moved (past p (get_or xs i d)) (drop (i + 1) xs)
moved_step xs i d p h = ap (moved p) (drop_more xs i d h)

pub width_step : (xs : List ℕ) (i d : ℕ) → i < length xs → width (drop i xs) ≡ len_utf8 (get_or xs i d) + width (drop (i + 1) xs)
width_step xs i d h = ap width (drop_more xs i d h)

module _ (n : ℕ) (p : Place) (ts : List Token) where
  pub gap_more : (all : List ℕ) (q : Piece) → q ≡ Gap n → q ≡ piece_at all → reach q < length all
      → led ts (lexed (drop (n + 1) all) 0 (moved p (take (n + 1) all))) ≡ led ts (lexed all 0 p)
  gap_more [] q e f h = absurd (omega arith)
  gap_more (c ∷ rest) q e f h = gap_step (c ∷ rest) rest c n p ts refl (sym e ∙ f) (omega (arith, ap reach e))

  pub part_more : (all : List ℕ) (q : Piece) (k : TokenKind) (us : List Token) → us ≡ ts ++ token k p ∷ [] → q ≡ Part k n → q ≡ piece_at all
      → reach q < length all → led us (lexed (drop (n + 1) all) 0 (moved p (take (n + 1) all))) ≡ led ts (lexed all 0 p)
  part_more [] q k us w e f h = absurd (omega arith)
  part_more (c ∷ rest) q k us w e f h = part_step (c ∷ rest) rest c n p ts us k w refl (sym e ∙ f) (omega (arith, ap reach e))

  pub fault_more : (all : List ℕ) (q : Piece) (k : FaultKind) → 0 < length all → q ≡ Fault k n → q ≡ piece_at all → led ts (lexed all 0 p)
      ≡ Err (fault_at k (moved p (take n all)))
  fault_more [] q k l e f = absurd (omega arith)
  fault_more (c ∷ rest) q k l e f = fault_step (c ∷ rest) rest c n p ts k refl (sym e ∙ f)

pub length-le-width : (xs : List ℕ) → length xs ≤ width xs
length-le-width [] = omega arith
length-le-width (x ∷ xs) = omega (arith, length-le-width xs, (len_utf8_bounds x).0)

-- a piece lies within what is left, which has fewer than 4,294,967,295 characters
pub record Fits (n : ℕ) (rest : List ℕ) : Type 0 where
  pub within : n < length rest
  pub few : length rest < 4294967295

pub piece_fits : (all rest : List ℕ) (at : ℕ) {n k : ℕ} → width all < 4294967295 → k ≡ n → k < length rest → at + width rest ≡ width all → Fits n rest
piece_fits all rest at few is within whole = record { within = omega arith; few = omega (arith, length-le-width rest) }

module _ (n : ℕ) (p r : Place) (all : List ℕ) where
  pub cut_size : r.at ≡ p.at + width (take (n + 1) all) → r.at + width (take (length all - (n + 1)) (drop (n + 1) all)) ≡ p.at + width all
  cut_size h = ap (λ ys. r.at + width ys) (take_rest all (n + 1)) ∙ omega (arith, h, width_split (n + 1) all)

  pub gap_cut : (ts : List Token) (q : Piece) (o : LexOutcome) → r ≡ moved p (take (n + 1) all) → q ≡ Gap n → q ≡ piece_at all → reach q < length all
      → led ts (lexed all 0 p) ≡ o → led ts (lexed (take (length all - (n + 1)) (drop (n + 1) all)) 0 r) ≡ o
  gap_cut ts q o h e f g s = ap (λ ys. led ts (lexed ys 0 r)) (take_rest all (n + 1)) ∙ ap (λ t. led ts (lexed (drop (n + 1) all) 0 t)) h
      ∙ gap_more n p ts all q e f g ∙ s

  pub part_cut : (ts us : List Token) (k : TokenKind) (q : Piece) (o : LexOutcome) → us ≡ ts ++ token k p ∷ [] → r ≡ moved p (take (n + 1) all)
      → q ≡ Part k n → q ≡ piece_at all → reach q < length all → led ts (lexed all 0 p) ≡ o
      → led us (lexed (take (length all - (n + 1)) (drop (n + 1) all)) 0 r) ≡ o
  part_cut ts us k q o w h e f g s = ap (λ ys. led us (lexed ys 0 r)) (take_rest all (n + 1)) ∙ ap (λ t. led us (lexed (drop (n + 1) all) 0 t)) h
      ∙ part_more n p ts all q k us w e f g ∙ s

pub width-chars : (bs : List ℕ) → IsUtf8 bs → width (chars bs) ≡ length bs
width-chars bs u = width-encodes (chars bs) ∙ ap length (encodes-chars bs u)

pub tokens_ok : (bs : List ℕ) → IsUtf8 bs → tokens_of bs ≡ lexed (chars bs) 0 start
tokens_ok bs u = cond-true (is_utf8 bs) _ _ (is_utf8-from_IsUtf8 bs u)

pub tokens_err : (bs : List ℕ) (n : ℕ) → ¬ (IsUtf8 bs) → n ≡ utf8_valid_len bs → tokens_of bs ≡ Err (faults.BadByte (byte_place bs n))
tokens_err bs n u e = cond-false (is_utf8 bs) _ _ (false_from_ne_true (is_utf8 bs) (λ h. u (IsUtf8-from_is_utf8 bs h)))
    ∙ ap (λ m. fails (faults.BadByte (byte_place bs m))) (sym e)

pub gives_along : (r : Result (Vec Token Global) LexFault) (o p : LexOutcome) → GivesTokens r o → p ≡ o → GivesTokens r p
gives_along r o p h e = subst (λ x. GivesTokens r x) (sym e) h
