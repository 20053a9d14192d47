-- The first mark of the table that fits is the longest one.
use Rattle.std.proofs.Common.{◌≡◌, ℕ, ◌&&◌, Bool, true, List, [], ◌∷◌, length, Option, Some, None, IfSome, refl, sym, ◌∙◌, subst, arith, nat_le, inl, inr}
use Rattle.std.proofs.lemmas.Bool.{and_parts, leb-true, cases_Bool, cond-true, cond-false, true≢false}
use Rattle.kaba_base.specs.Words.{first_that}
use Rattle.java_lex.specs.declared.Mark.{Mark}
use Rattle.java_lex.specs.declared.TheConstants.{MARKS}
use Rattle.java_lex.specs.Chars.{is_front}
use Rattle.java_lex.specs.Spelling.{mark_text, mark_of, NoneLonger}

abbrev none_over : ℕ → List Mark → Bool
none_over k [] = true
none_over k (m ∷ ms) = nat_le (length (mark_text m)) k && none_over k ms

abbrev falls : List Mark → Bool
falls [] = true
falls (m ∷ ms) = none_over (length (mark_text m)) ms && falls ms

all_shorter : (cs : List ℕ) (m : Mark) (ms : List Mark) → none_over (length (mark_text m)) ms ≡ true → NoneLonger cs m ms
all_shorter cs m [] h = tt
all_shorter cs m (n ∷ ns) h = let p = and_parts (nat_le (length (mark_text n)) (length (mark_text m))) (none_over (length (mark_text m)) ns) h in
    ((λ f. leb-true (length (mark_text n)) (length (mark_text m)) p.0), all_shorter cs m ns p.1)

first_longest : (cs : List ℕ) (ms : List Mark) (m : Mark) → falls ms ≡ true → first_that (λ k. is_front (mark_text k) cs) ms ≡ Some m → NoneLonger cs m ms
first_longest cs [] m h e = tt
first_longest cs (n ∷ ns) m h e =
    let p = and_parts (none_over (length (mark_text n)) ns) (falls ns) h in
    elim (cases_Bool (is_front (mark_text n) cs)) as (λ _. NoneLonger cs m (n ∷ ns)) [
      | inl f ↦ (let same : n ≡ m = cc (sym (cond-true (is_front (mark_text n) cs) (Some n) (first_that (λ k. is_front (mark_text k) cs) ns) f) ∙ e) in
          subst (λ k. NoneLonger cs k (n ∷ ns)) same ((λ g. omega arith), all_shorter cs n ns p.0))
      | inr f ↦ (
        (λ g. absurd (true≢false (sym g ∙ f))),
        first_longest cs ns m p.1
            (sym (cond-false (is_front (mark_text n) cs) (Some n) (first_that (λ k. is_front (mark_text k) cs) ns) f) ∙ e),
      )
    ]

pub longest : (cs : List ℕ) (o : Option Mark) → o ≡ mark_of cs → IfSome o (λ m. NoneLonger cs m MARKS)
longest cs None e = tt
longest cs (Some m) e = first_longest cs MARKS m refl (sym e)
