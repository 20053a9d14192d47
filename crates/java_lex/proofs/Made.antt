-- The rules, as the code meets them.
use Rattle.std.proofs.Common.{◌≡◌, ℕ, ◌+◌, true, false, List, ◌∷◌, take, Result, Ok, Err, IfOk, ap, sym, ◌∙◌, add-one}
use Rattle.std.specs.List.{prefix_len}
use Rattle.std.specs.Char.{is_ascii_digit}
use Rattle.std.specs.declared.alloc.AllocError.{AllocError}
use Rattle.java_lex.specs.Chars.{is_blank}
use Rattle.kaba_base.specs.Words.{is_start, is_part}
use Rattle.java_lex.specs.Piece.{piece_of, word_piece, number_in, more_digits}
use Rattle.java_lex.proofs.Rules.{word_rule, number_rule}

pub ok_along : {A : Type 0} (r : Result A AllocError) (q t : A) → IfOk r (λ p. p ≡ q) → q ≡ t → IfOk r (λ p. p ≡ t)
ok_along (Ok p) q t h e = h ∙ e
ok_along (Err f) q t h e = tt

pub word_made : (all rest : List ℕ) (c n : ℕ) → all ≡ c ∷ rest → n ≡ prefix_len is_part rest → is_blank c ≡ false → is_start c ≡ true
    → word_piece (take (n + 1) all) n ≡ piece_of c rest
word_made all rest c n e f h k =
    ap (λ xs. word_piece (take (n + 1) xs) n) e ∙ ap (λ m. word_piece (take m (c ∷ rest)) n) (add-one n)
    ∙ ap (λ m. word_piece (c ∷ take m rest) m) f ∙ sym (word_rule c rest h k)

pub number_made : (all rest : List ℕ) (c n : ℕ) → all ≡ c ∷ rest → n ≡ more_digits c rest → is_blank c ≡ false → is_start c ≡ false
    → is_ascii_digit c ≡ true → number_in all n ≡ piece_of c rest
number_made all rest c n e f h k l = ap (λ xs. number_in xs n) e ∙ ap (number_in (c ∷ rest)) f ∙ sym (number_rule c rest h k l)
