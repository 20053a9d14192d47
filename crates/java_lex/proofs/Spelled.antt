-- What is written of each kind of token is read as that kind.
use Rattle.std.proofs.Common.{get_or, drop, ◌≡◌, ℕ, ◌+◌, ◌-◌, ◌==◌, Bool, true, false, List, [], ◌∷◌, ◌++◌, length, Option, Some, None, refl, ap, sym, ◌∙◌, codes, one-add}
use Rattle.std.proofs.lemmas.Bool.{eqb-true, and_parts, true≢false}
use Rattle.std.proofs.lemmas.List.{take_at}
use Rattle.std.specs.List.{take_while, prefix_len, list_all}
use Rattle.std.specs.Char.{is_ascii_digit}
use Rattle.unicode_ident.proofs.Computing.{unicode_ident}
use Rattle.java_lex.specs.declared.TokenKind.{TokenKind}
use Rattle.java_lex.specs.declared.TokenKind.TheVariants as kinds
use Rattle.kaba_base.specs.declared.Keyword.{Keyword}
use Rattle.kaba_base.specs.declared.Keyword.TheVariants as keys
use Rattle.java_lex.specs.declared.Mark.{Mark}
use Rattle.java_lex.specs.declared.Mark.TheVariants as marks
use Rattle.java_lex.specs.declared.scan.Piece.TheVariants.{Part}
use Rattle.java_lex.specs.Chars.{is_blank, is_front}
use Rattle.kaba_base.specs.Words.{is_start, is_part, next_is, is_word, is_none, is_name}
use Rattle.java_lex.specs.Spelling.{mark_of, mark_text}
use Rattle.kaba_base.specs.Words.{key_of, key_text}
use Rattle.java_lex.specs.Piece.{piece_of, word_piece, word_kind, mark_piece}
use Rattle.java_lex.proofs.Rules.{word_rule, mark_rule}
use Rattle.java_lex.specs.Spells.{Spells}
use Rattle.java_lex.proofs.Skips.{one_more}

-- a run that stops
pub run_len : (p : ℕ → Bool) (xs rest : List ℕ) → list_all p xs ≡ true → next_is p rest ≡ false → prefix_len p (xs ++ rest) ≡ length xs
run_len p [] [] h k = refl
run_len p [] (c ∷ cs) h k = rw k refl
run_len p (x ∷ xs) rest h k = let q = and_parts (p x) (list_all p xs) h in rw (q.0) (ap (λ n. 1 + n) (run_len p xs rest q.1 k) ∙ one-add (length xs))

pub run_taken : (p : ℕ → Bool) (xs rest : List ℕ) → list_all p xs ≡ true → next_is p rest ≡ false → take_while p (xs ++ rest) ≡ xs
run_taken p xs rest h k = rw (run_len p xs rest h k) (take_at xs rest (length xs) refl)

-- a start of an identifier is none of these
pub starts_none : (c d : ℕ) → is_start d ≡ false → is_start c ≡ true → (c == d) ≡ false
starts_none c d h k = elim (c == d) as (λ b. (c == d) ≡ b → (b ≡ false)) [
  | true ↦ λ e. absurd (true≢false (sym k ∙ ap is_start (eqb-true c d e) ∙ h))
  | false ↦ λ e. refl
] refl

pub start_not_blank : (c : ℕ) → is_start c ≡ true → is_blank c ≡ false
unfolding unicode_ident
start_not_blank c k = rw (starts_none c 32 refl k, starts_none c 9 refl k, starts_none c 12 refl k, starts_none c 13 refl k, starts_none c 10 refl k) refl

word_like : (c : ℕ) (xs rest : List ℕ) → is_start c ≡ true → list_all is_part xs ≡ true → next_is is_part rest ≡ false → piece_of c (xs ++ rest)
    ≡ word_piece (c ∷ xs) (length xs)
word_like c xs rest h k l =
    word_rule c (xs ++ rest) (start_not_blank c h) h
    ∙ ap (λ w. word_piece (c ∷ w) (prefix_len is_part (xs ++ rest))) (run_taken is_part xs rest k l)
    ∙ ap (λ n. word_piece (c ∷ xs) n) (run_len is_part xs rest k l)

none_is : {A : Type 0} (o : Option A) → is_none o ≡ true → o ≡ None
none_is None h = refl
none_is (Some x) h = absurd (true≢false (sym h))

pub word : (c : ℕ) (xs rest : List ℕ) (ks : List TokenKind) → is_start c ≡ true → list_all is_part xs ≡ true → key_of (c ∷ xs) ≡ None
    → next_is is_part rest ≡ false → Spells rest ks → Spells (c ∷ (xs ++ rest)) (kinds.Word (c ∷ xs) ∷ ks)
word c xs rest ks h k e l s = one_more (kinds.Word (c ∷ xs)) c xs rest ks (word_like c xs rest h k l ∙ ap (λ o. Part (word_kind (c ∷ xs) o) (length xs)) e) s

-- a name, as the whole of its characters
pub name : (w rest : List ℕ) (ks : List TokenKind) → is_name w ≡ true → next_is is_part rest ≡ false → Spells rest ks → Spells (w ++ rest) (kinds.Word w ∷ ks)
name [] rest ks h l s = absurd (true≢false (sym h))
name (c ∷ xs) rest ks h l s = let p = and_parts (is_word (c ∷ xs)) (is_none (key_of (c ∷ xs))) h in let q = and_parts (is_start c) (list_all is_part xs) p.0 in
    word c xs rest ks q.0 q.1 (none_is (key_of (c ∷ xs)) p.1) l s

key_at : (k : Keyword) (c : ℕ) (xs rest : List ℕ) (ks : List TokenKind) → is_start c ≡ true → list_all is_part xs ≡ true → key_of (c ∷ xs) ≡ Some k
    → next_is is_part rest ≡ false → Spells rest ks → Spells (c ∷ (xs ++ rest)) (kinds.Key k ∷ ks)
key_at q c xs rest ks h k e l s = one_more (kinds.Key q) c xs rest ks (word_like c xs rest h k l ∙ ap (λ o. Part (word_kind (c ∷ xs) o) (length xs)) e) s

pub key : (k : Keyword) (rest : List ℕ) (ks : List TokenKind) → next_is is_part rest ≡ false → Spells rest ks → Spells (key_text k ++ rest) (kinds.Key k ∷ ks)
unfolding unicode_ident key_text
key keys.Abstract rest ks l s = key_at keys.Abstract 97 (codes "bstract") rest ks refl refl refl l s
key k rest ks l s = key_at k (get_or (key_text k) 0 0) (drop 1 (key_text k)) rest ks refl refl refl l s

-- a mark, where longest match gives it and no comment begins
marked : (m : Mark) (c : ℕ) (xs rest : List ℕ) (ks : List TokenKind) → length (mark_text m) - 1 ≡ length xs → is_blank c ≡ false → is_start c ≡ false
    → is_ascii_digit c ≡ false → (c == 34) ≡ false → (c == 39) ≡ false
    → mark_of (c ∷ (xs ++ rest)) ≡ Some m → is_front (codes "//") (c ∷ (xs ++ rest)) ≡ false → is_front (codes "/*") (c ∷ (xs ++ rest)) ≡ false
    → Spells rest ks → Spells (c ∷ (xs ++ rest)) (kinds.Mark m ∷ ks)
marked m c xs rest ks z h k l n o e f g s = one_more (kinds.Mark m) c xs rest ks (mark_rule c (xs ++ rest) h k l n o f g ∙ ap mark_piece e
    ∙ ap (Part (kinds.Mark m)) z) s

pub mark : (m : Mark) (rest : List ℕ) (ks : List TokenKind) → mark_of (mark_text m ++ rest) ≡ Some m → is_front (codes "//") (mark_text m ++ rest)
    ≡ false → is_front (codes "/*") (mark_text m ++ rest) ≡ false → Spells rest ks → Spells (mark_text m ++ rest) (kinds.Mark m ∷ ks)
unfolding unicode_ident
mark marks.OpenRound rest ks e f g s = marked marks.OpenRound 40 [] rest ks refl refl refl refl refl refl e f g s
mark m rest ks e f g s = marked m (get_or (mark_text m) 0 0) (drop 1 (mark_text m)) rest ks refl refl refl refl refl refl e f g s

-- marks that begin no other one stand anywhere
pub data IsClosed : Mark → Type 0 where
  cOpenRound : IsClosed marks.OpenRound
  cCloseRound : IsClosed marks.CloseRound
  cOpenBrace : IsClosed marks.OpenBrace
  cCloseBrace : IsClosed marks.CloseBrace
  cOpenSquare : IsClosed marks.OpenSquare
  cCloseSquare : IsClosed marks.CloseSquare
  cSemi : IsClosed marks.Semi
  cComma : IsClosed marks.Comma
  cDot : IsClosed marks.Dot
  cShiftLeft : IsClosed marks.ShiftLeft
  cShiftRightLogical : IsClosed marks.ShiftRightLogical
  cXor : IsClosed marks.Xor
  cFlip : IsClosed marks.Flip
  cBoth : IsClosed marks.Both
  cEither : IsClosed marks.Either
  cEqual : IsClosed marks.Equal
  cNotEqual : IsClosed marks.NotEqual
  cAtMost : IsClosed marks.AtMost
  cAtLeast : IsClosed marks.AtLeast
  cPlusAssign : IsClosed marks.PlusAssign
  cMinusAssign : IsClosed marks.MinusAssign
  cStarAssign : IsClosed marks.StarAssign
  cSlashAssign : IsClosed marks.SlashAssign
  cPercentAssign : IsClosed marks.PercentAssign
  cPlusPlus : IsClosed marks.PlusPlus
  cMinusMinus : IsClosed marks.MinusMinus

pub closed : {m : Mark} → IsClosed m → (rest : List ℕ) (ks : List TokenKind) → Spells rest ks → Spells (mark_text m ++ rest) (kinds.Mark m ∷ ks)
closed cOpenRound rest ks s = mark marks.OpenRound rest ks refl refl refl s
closed {m} c rest ks s = mark m rest ks refl refl refl s

-- any mark stands before a blank
pub before_blank : (m : Mark) (rest : List ℕ) (ks : List TokenKind) → Spells (32 ∷ rest) ks → Spells (mark_text m ++ 32 ∷ rest) (kinds.Mark m ∷ ks)
before_blank marks.OpenRound rest ks s = mark marks.OpenRound (32 ∷ rest) ks refl refl refl s
before_blank m rest ks s = mark m (32 ∷ rest) ks refl refl refl s
