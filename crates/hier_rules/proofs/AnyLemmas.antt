-- Tests over lists and over numbers, a step at a time.
use Rattle.std.proofs.Common.{◌≡◌, ℕ, ◌+◌, ◌<◌, ◌&&◌, ◌||◌, Bool, length, get_or, take, sym, subst, ◌∙◌, None, true, false, List, [], ◌∷◌, add-one, ap, ⊎_elim, arith}
use Rattle.std.specs.List.{list_any}
use Rattle.std.proofs.Math.Bool.{or_assoc}
use Rattle.std.proofs.lemmas.List.Folds.{list_any_more}
use Rattle.std.proofs.lemmas.Bool.{cases_eq, cases_lt, false≢true, or_cases, or_left, or_right}
use Rattle.kaba_bits.specs.Sets.{bit, first_below, when, IsNoneFrom, IsLeastFrom}
use Rattle.kaba_bits.proofs.SetLemmas.{bit-below}
use Rattle.kaba_bits.proofs.FirstLemmas.{first_below_clear}
use Rattle.hier_model.specs.Hierarchies.{any_below}

-- one number on, with none that passes yet
pub any_more : (p : ℕ → Bool) (i : ℕ) → any_below i p ≡ false → p i ≡ false → any_below (i + 1) p ≡ false
any_more p i none here = rw (add-one, none) here

-- a search whose test has a part that fails
pub none_where : {B : Type 0} (t : Bool) (q : ℕ → Bool) (v : ℕ → B) (n : ℕ) → t ≡ false → first_below n (λ k. when (t && q k) (v k)) ≡ None
none_where t q v n e = first_below_clear (λ k. when (t && q k) (v k)) n (λ k lt. ap (λ b. when (b && q k) (v k)) e)

-- what passes a test passes a weaker one
pub any_weaker : {X : Type 0} (p q : X → Bool) → ((x : X) → q x ≡ true → p x ≡ true) → (xs : List X) → list_any q xs ≡ true → list_any p xs ≡ true
any_weaker p q f [] h = h
any_weaker p q f (x ∷ xs) h = ⊎_elim (λ a. or_left (p x) (list_any p xs) (f x a)) (λ b. or_right (p x) (list_any p xs) (any_weaker p q f xs b))
    (or_cases (q x) (list_any q xs) h)

-- one item of a list on, in a set that gathers what passes for some item
pub gathered : {X S : Type 0} (p : X → S → Bool) (start old new : S → Bool) (xs ys : List X) (i : ℕ) (d : X) → ys ≡ xs → i < length ys
    → ((s : S) → new s ≡ (old s || p (get_or ys i d) s)) → ((s : S) → old s ≡ (start s || list_any (λ x. p x s) (take i xs)))
    → (s : S) → new s ≡ (start s || list_any (λ x. p x s) (take (i + 1) xs))
gathered {X = X} p start old new xs ys i d same lt step before s =
    let test : X → Bool = λ x. p x s in
    let within : i < length xs = subst (λ l. i < length l) same lt in
    step s ∙ ap (λ b. b || p (get_or ys i d) s) (before s) ∙ or_assoc (start s) (list_any test (take i xs)) (p (get_or ys i d) s)
    ∙ ap (λ b. start s || b) (ap (λ l. list_any test (take i xs) || p (get_or l i d) s) same ∙ sym (list_any_more test xs i d within))

-- no number of a set before one passes a test: with the next one of the set, and where there is no next one
pub none_next : (set : List Bool) (p : ℕ → Bool) (at i : ℕ) → ((k : ℕ) → k < at → bit set k ≡ true → p k ≡ false) → IsLeastFrom (bit set) at i → p i ≡ false
    → (k : ℕ) → k < i + 1 → bit set k ≡ true → p k ≡ false
none_next set p at i before found fails k lt h =
    ⊎_elim
    (λ early. before k early h)
    (λ late. ⊎_elim
    (λ same. subst (λ j. p j ≡ false) (sym same) fails)
    (λ ne. absurd (false≢true (sym (found.least k late (omega (arith, lt, ne))) ∙ h)))
    (cases_eq k i))
    (cases_lt k at)

pub none_left : (set : List Bool) (p : ℕ → Bool) (at : ℕ) → ((k : ℕ) → k < at → bit set k ≡ true → p k ≡ false) → IsNoneFrom (bit set) at (length set)
    → (k : ℕ) → bit set k ≡ true → p k ≡ false
none_left set p at before none k h =
    ⊎_elim (λ early. before k early h) (λ late. absurd (false≢true (sym (none k late (bit-below set k h)) ∙ h))) (cases_lt k at)
