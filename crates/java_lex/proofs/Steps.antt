-- One more step of a scan.
use Rattle.std.proofs.Common.{◌≡◌, ℕ, ◌+◌, ◌-◌, ◌*◌, ◌≤◌, ◌<◌, ◌==◌, Bool, true, false, List, [], ◌∷◌, ◌++◌, Option, Some, None, refl, ap, sym, ◌∙◌, append_assoc, add_assoc, length, get_or, take, drop, arith, codes, nat_lt}
use Rattle.std.specs.Char.{digit_value}
use Rattle.std.specs.Str.Parse.{digits_value_after}
use Rattle.std.proofs.lemmas.List.{take_all, take_rest, drop_more}
use Rattle.std.proofs.lemmas.Bool.{eq-eqb, ne_eqb, cond-false, cond-true, lt-ltb}
use Rattle.java_lex.specs.declared.Mark.{Mark}
use Rattle.java_lex.specs.Spelling.{mark_text}
use Rattle.kaba_base.specs.Words.{first_that}
use Rattle.std.specs.Char.Escape.{encode_utf16}
use Rattle.java_lex.specs.Chars.{is_line_end, is_front}
use Rattle.java_lex.specs.declared.scan.Quoted.{Quoted}
use Rattle.java_lex.specs.declared.scan.Quoted.TheVariants.{Closed, Open, Wrong}
use Rattle.java_lex.specs.Piece.{quoted, behind, behind_escape, escaped, on, one_more, comment_end, capped}

pub behind_behind : (us vs : List ℕ) (m n : ℕ) (q : Quoted) → behind us m (behind vs n q) ≡ behind (us ++ vs) (m + n) q
behind_behind us vs m n (Closed ws k) = rw (append_assoc us vs ws, add_assoc m n k) refl
behind_behind us vs m n Open = refl
behind_behind us vs m n (Wrong k) = rw (add_assoc m n k) refl

pub quoted_escape : (c d : ℕ) (cs : List ℕ) → (c == 34) ≡ false → is_line_end c ≡ false → (c == 92) ≡ true
    → quoted (c ∷ d ∷ cs) ≡ behind_escape (escaped d) (quoted cs)
quoted_escape c d cs h k l = rw (h, k, l) refl

pub quoted_raw : (c : ℕ) (xs : List ℕ) → (c == 34) ≡ false → is_line_end c ≡ false → (c == 92) ≡ false → quoted (c ∷ xs) ≡ behind (encode_utf16 c) 1 (quoted xs)
quoted_raw c [] h k l = rw (h, k, l) refl
quoted_raw c (d ∷ xs) h k l = rw (h, k, l) refl

-- a slice pattern
pub split_first : {A : Type 0} (xs : List A) (c : A) → 1 ≤ length xs → c ≡ get_or xs 0 c → xs ≡ c ∷ take (length xs - 1) (drop 1 xs)
split_first [] c h e = absurd (omega arith)
split_first (x ∷ xs) c h e = ap (λ y. y ∷ xs) (sym e) ∙ ap (λ y. c ∷ y) (sym (take_all (length (x ∷ xs) - 1) xs (omega arith)))

pub escape_step : (vs us : List ℕ) (n : ℕ) (rest after more : List ℕ) (c d u : ℕ) → vs ≡ us ++ u ∷ [] → rest ≡ c ∷ after → after ≡ d ∷ more
    → (c ≡ 34 → ⊥) → is_line_end c ≡ false → c ≡ 92 → escaped d ≡ Some u → behind vs (n + 2) (quoted more) ≡ behind us n (quoted rest)
escape_step vs us n rest after more c d u w e f h k l g =
    ap (λ ws. behind ws (n + 2) (quoted more)) w ∙ sym (behind_behind us (u ∷ []) n 2 (quoted more))
    ∙ ap (λ o. behind us n (behind_escape o (quoted more))) (sym g)
    ∙ ap (behind us n) (sym (quoted_escape c d more (ne_eqb c 34 h) k (eq-eqb c 92 l)))
    ∙ ap (λ xs. behind us n (quoted (c ∷ xs))) (sym f)
    ∙ ap (λ xs. behind us n (quoted xs)) (sym e)

pub raw_step : (vs us : List ℕ) (n : ℕ) (rest more : List ℕ) (c : ℕ) → vs ≡ us ++ encode_utf16 c → rest ≡ c ∷ more → (c ≡ 34 → ⊥)
    → is_line_end c ≡ false → (c ≡ 92 → ⊥) → behind vs (n + 1) (quoted more) ≡ behind us n (quoted rest)
raw_step vs us n rest more c w e h k l =
    ap (λ ws. behind ws (n + 1) (quoted more)) w ∙ sym (behind_behind us (encode_utf16 c) n 1 (quoted more))
    ∙ ap (behind us n) (sym (quoted_raw c more (ne_eqb c 34 h) k (ne_eqb c 92 l)))
    ∙ ap (λ xs. behind us n (quoted xs)) (sym e)

pub mark_skip : (ms : List Mark) (t rest : List ℕ) (d : Mark) (b : Bool) (r : Option Mark) → 1 ≤ length ms → t ≡ mark_text (get_or ms 0 d)
    → b ≡ is_front t rest → b ≡ false → r ≡ first_that (λ m. is_front (mark_text m) rest) (take (length ms - 1) (drop 1 ms))
    → r ≡ first_that (λ m. is_front (mark_text m) rest) ms
mark_skip [] t rest d b r h e f g k = absurd (omega arith)
mark_skip (m ∷ ms) t rest d b r h e f g k = k ∙ ap (first_that (λ x. is_front (mark_text x) rest)) (take_all (length (m ∷ ms) - 1) ms (omega arith))
    ∙ sym (cond-false (is_front (mark_text m) rest) _ _ (ap (λ x. is_front x rest) (sym e) ∙ sym f ∙ g))

on_more : (n : ℕ) (o : Option ℕ) → on (n + 1) o ≡ on n (one_more o)
on_more n None = refl
on_more n (Some m) = ap Some (omega arith)

comment_more : (c : ℕ) (cs : List ℕ) → is_front (codes "*/") (c ∷ cs) ≡ false → comment_end (c ∷ cs) ≡ one_more (comment_end cs)
comment_more c cs h = rw h refl

pub comment_step : (xs : List ℕ) (n : ℕ) (r : Option ℕ) (b : Bool) → n < length xs → b ≡ is_front (codes "*/") (take (length xs - n) (drop n xs))
    → b ≡ false → on n (comment_end (drop n xs)) ≡ r → on (n + 1) (comment_end (drop (n + 1) xs)) ≡ r
comment_step xs n r b h e f k =
    let d = drop_more xs n 0 h in
    on_more n (comment_end (drop (n + 1) xs))
    ∙ ap (on n) (sym (comment_more (get_or xs n 0) (drop (n + 1) xs) (ap (is_front (codes "*/")) (sym d)
    ∙ sym (ap (is_front (codes "*/")) (take_rest xs n)) ∙ sym e ∙ f)))
    ∙ ap (λ ys. on n (comment_end ys)) (sym d) ∙ k

pub value_rises : (n : ℕ) (ds : List ℕ) → n ≤ digits_value_after 10 n ds
value_rises n [] = omega arith
value_rises n (d ∷ ds) = omega (arith, value_rises (n * 10 + digit_value d) ds)

pub value_over : (v c m : ℕ) (ds after : List ℕ) → ds ≡ c ∷ after → m ≡ v * 10 + digit_value c → 2147483648 < m → None ≡ capped (digits_value_after 10 v ds)
value_over v c m ds after e f h =
    let p : 2147483648 < digits_value_after 10 (v * 10 + digit_value c) after = omega (arith, value_rises (v * 10 + digit_value c) after, f) in
    sym (ap (λ ys. capped (digits_value_after 10 v ys)) e ∙ cond-true (nat_lt 2147483648 (digits_value_after 10 (v * 10 + digit_value c) after)) _
    _ (lt-ltb _ _ p))
