-- The first token that goes too deep, and the greatest size of the stack.
use Rattle.std.proofs.Common.{◌≡◌, ℕ, zero, suc, ◌+◌, ◌<◌, ◌≤◌, List, [], ◌∷◌, length, sym, ap, ◌∙◌, subst, arith, add-one}
use Rattle.std.proofs.Common.{leb, Bool, true, false}
use Rattle.std.proofs.lemmas.Bool.{leb-true, leb-false}
use Rattle.java_parse.proofs.Fronts.{bool_cases}
use Rattle.java_lex.specs.declared.Token.{Token}
use Rattle.java_tree.specs.declared.Entry.{Entry}
use Rattle.java_tree.specs.Nesting.{after_token, stack_after, nesting_from, nesting_of, IsTooDeep}

-- where no token goes deeper, the stack is never higher
nested : (s : List Entry) (ts : List Token) → length s ≤ 128 → ((k : ℕ) → k < length ts → length (stack_after s ts (suc k)) ≤ 128) → nesting_from s ts ≤ 128
nested s [] h all = h
nested s (t ∷ ts) h all = let g = nested (after_token t.kind ts s) ts (all 0 (omega arith)) (λ k le. all (suc k) (omega arith)) in omega (arith, h, g)

pub shallow_nested : (ts : List Token) → ((k : ℕ) → k < length ts → length (stack_after [] ts (k + 1)) ≤ 128) → nesting_of ts ≤ 128
shallow_nested ts all = nested [] ts (omega arith) (λ k le. let h : length (stack_after [] ts (k + 1)) ≤ 128 = all k le in subst
    (λ n. length (stack_after [] ts n) ≤ 128) (add-one k) h)

-- and where one does, it is
higher : (s : List Entry) (ts : List Token) (k : ℕ) → k < length ts → length (stack_after s ts (suc k)) ≤ nesting_from s ts
higher s [] k h = absurd (omega (arith, h))
higher s (t ∷ ts) zero h = let g = first (after_token t.kind ts s) ts in omega (arith, g)
  where
    first : (s : List Entry) (ts : List Token) → length s ≤ nesting_from s ts
    first s [] = omega arith
    first s (t ∷ ts) = omega arith
higher s (t ∷ ts) (suc k) h = let g = higher (after_token t.kind ts s) ts k (omega (arith, h)) in omega (arith, g)

pub deep_nested : (ts : List Token) (k : ℕ) → IsTooDeep ts k → 128 < nesting_of ts
deep_nested ts k d = omega (arith, higher [] ts k d.within, d.deep)

-- the first such token is one
pub one_deep : (ts : List Token) (j k : ℕ) → IsTooDeep ts j → IsTooDeep ts k → j ≡ k
one_deep ts j k a b = omega (arith, not_after ts j k a b, not_after ts k j b a)
  where
    not_after : (ts : List Token) (j k : ℕ) → IsTooDeep ts j → IsTooDeep ts k → k ≤ j
    not_after ts j k a b = bool_cases (leb k j) (λ h. leb-true k j h) (λ h. let l : j < k = leb-false k j h in absurd (omega (arith, a.deep, b.first j l)))

-- the loop over the tokens: the stack after one more
one_more : (ts next : List Token) (t : Token) (s : List Entry) (k : ℕ) → ((n : ℕ) → stack_after [] ts (k + n) ≡ stack_after s (t ∷ next) n) → (n : ℕ)
    → stack_after [] ts (k + 1 + n) ≡ stack_after (after_token t.kind next s) next n
one_more ts next t s k h n = let e : k + suc n ≡ k + 1 + n = omega arith in subst (λ (m : ℕ). stack_after [] ts m
    ≡ stack_after (after_token t.kind next s) next n) e (h (suc n))

pub goes_further : (ts rest next : List Token) (t : Token) (s u : List Entry) (k : ℕ) → rest ≡ t ∷ next → u ≡ after_token t.kind next s
    → ((n : ℕ) → stack_after [] ts (k + n) ≡ stack_after s rest n) → (n : ℕ) → stack_after [] ts (k + 1 + n) ≡ stack_after u next n
goes_further ts rest next t s u k e f h n =
    one_more ts next t s k (subst (λ (r : List Token). (n : ℕ) → stack_after [] ts (k + n) ≡ stack_after s r n) e h) n
    ∙ ap (λ (u : List Entry). stack_after u next n) (sym f)

-- the stack after token k
here : (ts next : List Token) (u : List Entry) (k : ℕ) → ((n : ℕ) → stack_after [] ts (k + 1 + n) ≡ stack_after u next n) → stack_after [] ts (k + 1) ≡ u
here ts next u k h = let e : k + 1 + 0 ≡ k + 1 = omega arith in subst (λ (m : ℕ). stack_after [] ts m ≡ u) e (h 0)

pub deep_here : (ts rest next : List Token) (t : Token) (s u : List Entry) (k : ℕ) → rest ≡ t ∷ next → u ≡ after_token t.kind next s
    → k + length rest ≡ length ts → ((n : ℕ) → stack_after [] ts (k + n) ≡ stack_after s rest n) →
    ((i : ℕ) → i < k → length (stack_after [] ts (i + 1)) ≤ 128) → 128 < length u → IsTooDeep ts k
deep_here ts rest next t s u k e f c h shallow d = record {
  within = let g = ap length e in omega (arith, g, c);
  deep = let g = here ts next u k (goes_further ts rest next t s u k e f h) in subst (λ (n : ℕ). 128 < length (stack_after [] ts n)) (add-one k)
      (subst (λ (w : List Entry). 128 < length w) (sym g) d);
  first = λ i l. subst (λ (n : ℕ). length (stack_after [] ts n) ≤ 128) (add-one i) (shallow i l);
}

pub shallow_here : (ts rest next : List Token) (t : Token) (s u : List Entry) (k : ℕ) → rest ≡ t ∷ next → u ≡ after_token t.kind next s
    → ((n : ℕ) → stack_after [] ts (k + n) ≡ stack_after s rest n) →
    ((i : ℕ) → i < k → length (stack_after [] ts (i + 1)) ≤ 128) → length u ≤ 128 → (i : ℕ) → i < k + 1 → length (stack_after [] ts (i + 1)) ≤ 128
shallow_here ts rest next t s u k e f h shallow d i l = bool_cases (leb (suc i) k)
    (λ y. shallow i (leb-true (suc i) k y))
    (λ n. let g : k < suc i = leb-false (suc i) k n in
    let q : k ≡ i = omega arith in
    let r : length (stack_after [] ts (k + 1)) ≤ 128 = subst (λ (w : List Entry). length w ≤ 128)
    (sym (here ts next u k (goes_further ts rest next t s u k e f h))) d in
    subst (λ (i : ℕ). length (stack_after [] ts (i + 1)) ≤ 128) q r)

pub low : (b : Bool) (n : ℕ) → (128 < n → b ≡ true) → b ≡ false → n ≤ 128
low b n f h = bool_cases (leb n 128) (λ y. leb-true n 128 y) (λ z. let g : b ≡ true = f (leb-false n 128 z) in absurd (let x : ⊥ = cc in x))
