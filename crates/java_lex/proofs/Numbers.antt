-- Numbers: what is written of one is read back.
use Rattle.std.proofs.Common.{◌≡◌, ℕ, zero, suc, ◌+◌, ◌%◌, ◌^◌, ◌<◌, ◌≤◌, ◌==◌, true, false, List, [], ◌∷◌, ◌++◌, length, get_or, take, drop, refl, ap, sym, ◌∙◌, add-one, arith, nat_lt, nat_le, ◌⊎◌, inl, inr, lit<}
use Rattle.std.proofs.lemmas.Bool.{eqb-true, ne_eqb, and_parts, and_from, true≢false, cases_Bool, leb-true, le-leb, lt-leb, le-ltb, cond-true, cond-false, false_from_ne_true}
use Rattle.std.proofs.lemmas.List.{take_at, drop_at}
use Rattle.std.proofs.lemmas.List.Folds.{list_all-append}
use Rattle.std.proofs.lemmas.Fmt.{decimal_by_steps, decimal_is_IsNumeral, first_decimal, decimal_digit}
use Rattle.std.specs.Fmt.{decimal}
use Rattle.std.specs.List.{list_all}
use Rattle.std.specs.Char.{is_ascii_digit}
use Rattle.std.specs.Str.Parse.{digits_value_after}
use Rattle.unicode_ident.specs.Ident.{is_xid_start, is_xid_continue}
use Rattle.unicode_ident.proofs.IdentLemmas.{is_xid_start-ascii, is_xid_continue-ascii}
use Rattle.java_lex.specs.declared.TokenKind.{TokenKind}
use Rattle.java_lex.specs.declared.scan.Piece.TheVariants.{Part}
use Rattle.java_lex.specs.Chars.{is_blank}
use Rattle.kaba_base.specs.Words.{is_start, is_part, next_is}
use Rattle.java_lex.specs.Piece.{piece_of, number_in, number_piece, number_kind, more_digits}
use Rattle.java_lex.proofs.Rules.{number_rule}
use Rattle.java_lex.specs.Spells.{Spells}
use Rattle.java_lex.proofs.Skips.{one_more}
use Rattle.java_lex.proofs.Spelled.{run_len}

abbrev pub Range : ℕ → Type 0
Range c = (48 ≤ c) × (c ≤ 57)

pub range : (c : ℕ) → is_ascii_digit c ≡ true → Range c
range c h = let p = and_parts (nat_le 48 c) (nat_le c 57) h in (leb-true 48 c p.0, leb-true c 57 p.1)

digit_test : (c : ℕ) → 48 ≤ c → c ≤ 57 → is_ascii_digit c ≡ true
digit_test c h k = and_from (nat_le 48 c) (nat_le c 57) (le-leb 48 c h) (le-leb c 57 k)

far : (c d : ℕ) → (c < d) ⊎ (d < c) → (c == d) ≡ false
far c d (inl h) = ne_eqb c d (λ e. omega arith)
far c d (inr h) = ne_eqb c d (λ e. omega arith)

not_blank : (c : ℕ) → Range c → is_blank c ≡ false
not_blank c h = rw (
  far c 32 (inr (omega (arith, h.0))),
  far c 9 (inr (omega (arith, h.0))),
  far c 12 (inr (omega (arith, h.0))),
  far c 13
      (inr (omega (arith, h.0))),
  far c 10 (inr (omega (arith, h.0))),
) refl

not_start : (c : ℕ) → Range c → is_start c ≡ false
not_start c h =
    let a : nat_le 65 c ≡ false = lt-leb 65 c (omega (arith, h.1)) in
    let b : nat_le 97 c ≡ false = lt-leb 97 c (omega (arith, h.1)) in
    let e : is_xid_start c ≡ false = is_xid_start-ascii c (omega (arith, h.1)) ∙ (rw (a, b) refl) in
    rw (e, far c 95 (inl (omega (arith, h.1))), far c 36 (inr (omega (arith, h.0)))) refl

pub digit_is_part : (c : ℕ) → is_ascii_digit c ≡ true → is_part c ≡ true
digit_is_part c d =
    let h = range c d in
    let a : nat_le 48 c ≡ true = le-leb 48 c h.0 in
    let b : nat_le c 57 ≡ true = le-leb c 57 h.1 in
    let e : is_xid_continue c ≡ true = is_xid_continue-ascii c (omega (arith, h.1)) ∙ (rw (a, b) refl) in
    rw e refl

pub all_digits : (n : ℕ) → n < 2 ^ 64 → list_all is_ascii_digit (decimal n) ≡ true
all_digits = decimal_by_steps (λ n ds. list_all is_ascii_digit ds ≡ true)
    (λ n h. let e : is_ascii_digit (48 + n) ≡ true = digit_test (48 + n) (omega arith) (omega arith) in rw e refl)
    (λ n ds h k. let e : is_ascii_digit (48 + n % 10) ≡ true = digit_test (48 + n % 10) (omega arith) (omega arith) in
    list_all-append is_ascii_digit ds ((48 + n % 10) ∷ []) ∙ (rw (k, e) refl))

stops : (rest : List ℕ) → next_is is_part rest ≡ false → next_is is_ascii_digit rest ≡ false
stops [] h = refl
stops (c ∷ rest) h = false_from_ne_true (is_ascii_digit c) (λ d. true≢false (sym (digit_is_part c d) ∙ h))

-- the digits of a number, of which the first is no 0 where there are more
module _ (c : ℕ) (xs rest : List ℕ) (n : ℕ) (digits : list_all is_ascii_digit (c ∷ xs) ≡ true) (lead : (c ≡ 48) → xs ≡ [])
    (value : digits_value_after 10 0 (c ∷ xs) ≡ n) (small : n ≤ 2147483648) (apart : next_is is_part rest ≡ false) where
  more : more_digits c (xs ++ rest) ≡ length xs
  more = elim (cases_Bool (c == 48)) as (λ _. more_digits c (xs ++ rest) ≡ length xs) [
    | inl h ↦ cond-true (c == 48) _ _ h ∙ sym (ap length (lead (eqb-true c 48 h)))
    | inr h ↦ cond-false (c == 48) _ _ h ∙ run_len is_ascii_digit xs rest (and_parts (is_ascii_digit c) (list_all is_ascii_digit xs) digits).1
        (stops rest apart)
  ]

  read : number_in (c ∷ (xs ++ rest)) (length xs) ≡ Part (number_kind n) (length xs)
  read =
      let big : nat_lt 2147483648 n ≡ false = le-ltb 2147483648 n small in
      ap (λ m. number_piece (digits_value_after 10 0 (take m (c ∷ (xs ++ rest)))) (length xs) (next_is is_part (drop m (c ∷ (xs ++ rest)))))
      (add-one (length xs))
      ∙ ap (λ ys. number_piece (digits_value_after 10 0 (c ∷ ys)) (length xs) (next_is is_part (drop (length xs) (xs ++ rest))))
      (take_at xs rest (length xs) refl)
      ∙ ap (λ ys. number_piece (digits_value_after 10 0 (c ∷ xs)) (length xs) (next_is is_part ys)) (drop_at xs rest (length xs) refl)
      ∙ ap (λ m. number_piece m (length xs) (next_is is_part rest)) value
      ∙ ap (number_piece n (length xs)) apart
      ∙ (rw big refl)

  piece : piece_of c (xs ++ rest) ≡ Part (number_kind n) (length xs)
  piece =
      let d = (and_parts (is_ascii_digit c) (list_all is_ascii_digit xs) digits).0 in
      number_rule c (xs ++ rest) (not_blank c (range c d)) (not_start c (range c d)) d ∙ ap (number_in (c ∷ (xs ++ rest))) more ∙ read

by_cases : (ds : List ℕ) (n : ℕ) (rest : List ℕ) (ks : List TokenKind) → 0 < length ds → list_all is_ascii_digit ds ≡ true
    → (get_or ds 0 0 ≡ 48 → ds ≡ 48 ∷ []) → digits_value_after 10 0 ds ≡ n → n ≤ 2147483648 → next_is is_part rest ≡ false → Spells rest ks
    → Spells (ds ++ rest) (number_kind n ∷ ks)
by_cases [] n rest ks h d l v s a t = absurd (omega arith)
by_cases (c ∷ xs) n rest ks h d l v s a t = one_more (number_kind n) c xs rest ks (piece c xs rest n d (λ e. cc (l e)) v s a) t

below : (n : ℕ) → n ≤ 2147483648 → n < 2 ^ 64
below n h = omega arith

lead_zero : (n : ℕ) → n ≤ 2147483648 → get_or (decimal n) 0 0 ≡ 48 → decimal n ≡ 48 ∷ []
lead_zero zero s h = decimal_digit 0 (lit< tt)
lead_zero (suc n) s h = absurd (omega (arith, h, first_decimal (suc n) (omega arith) (below (suc n) s)))

pub number : (n : ℕ) (rest : List ℕ) (ks : List TokenKind) → n ≤ 2147483648 → next_is is_part rest ≡ false → Spells rest ks
    → Spells (decimal n ++ rest) (number_kind n ∷ ks)
number n rest ks s a t =
    let q = decimal_is_IsNumeral n (below n s) in
    by_cases (decimal n) n rest ks q.0.0 (all_digits n (below n s)) (lead_zero n s) q.1 s a t
