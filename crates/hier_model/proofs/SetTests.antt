-- Tests of sets, and what they say.
use Rattle.std.proofs.Common.{◌≡◌, ℕ, zero, suc, ◌<◌, ◌||◌, not, Bool, true, false, List, [], ◌∷◌, length, get_or, All, refl, sym, ap, ◌∙◌, ⊎_elim, arith, eqb, eqb-true, eq-eqb}
use Rattle.std.proofs.lemmas.Bool.{false≢true, and_parts, and_from, or_cases, or_left, or_right, cases_Bool, cases_lt}
use Rattle.std.proofs.lemmas.List.Elements.{All-contains, All-from_get_or, Contains-get_or}
use Rattle.kaba_base.proofs.TestLemmas.{same_truth, refuted}
use Rattle.kaba_bits.specs.Sets.{bit, IsSubset, IsEmpty, ListsBelow}
use Rattle.kaba_bits.proofs.SetLemmas.{bit-below}
use Rattle.hier_model.specs.Start.{is_filled, is_subset, is_same_set}

-- a set that is filled has some number
pub filled-some : (s : List Bool) → is_filled s ≡ true → (i : ℕ) × (bit s i ≡ true)
filled-some [] h = absurd (false≢true h)
filled-some (b ∷ s) h = ⊎_elim (λ here. (0, here)) (λ more. let r = filled-some s more in (suc r.0, r.1)) (or_cases b (is_filled s) h)

pub filled-has : (s : List Bool) (i : ℕ) → bit s i ≡ true → is_filled s ≡ true
filled-has [] i h = absurd (false≢true h)
filled-has (b ∷ s) zero h = or_left b (is_filled s) h
filled-has (b ∷ s) (suc i) h = or_right b (is_filled s) (filled-has s i h)

pub filled-not : (s : List Bool) (b : Bool) → (b ≡ true → IsEmpty s) → (IsEmpty s → b ≡ true) → not b ≡ is_filled s
filled-not s true empty none = ⊎_elim (λ t. let i = filled-some s t in absurd (false≢true (sym (empty refl i.0) ∙ i.1))) (λ f. sym f) (cases_Bool (is_filled s))
filled-not s false empty none =
    ⊎_elim (λ t. sym t)
    (λ f. absurd (false≢true (none (λ i. ⊎_elim (λ t. absurd (false≢true (sym f ∙ filled-has s i t))) (λ g. g) (cases_Bool (bit s i))))))
    (cases_Bool (is_filled s))

implied : (x y : Bool) → (not x || y) ≡ true → x ≡ true → y ≡ true
implied true y h e = h
implied false y h e = absurd (false≢true e)

implies : (x y : Bool) → (x ≡ true → y ≡ true) → (not x || y) ≡ true
implies true y f = f refl
implies false y f = refl

pub subset-sound : (a b : List Bool) → is_subset a b ≡ true → IsSubset a b
subset-sound [] b h i e = absurd (false≢true e)
subset-sound (x ∷ a) [] h zero e = refuted x (and_parts (not x) (is_subset a []) h).0 e
subset-sound (x ∷ a) [] h (suc i) e = subset-sound a [] (and_parts (not x) (is_subset a []) h).1 i e
subset-sound (x ∷ a) (y ∷ b) h zero e = implied x y (and_parts (not x || y) (is_subset a b) h).0 e
subset-sound (x ∷ a) (y ∷ b) h (suc i) e = subset-sound a b (and_parts (not x || y) (is_subset a b) h).1 i e

pub subset-complete : (a b : List Bool) → IsSubset a b → is_subset a b ≡ true
subset-complete [] b s = refl
subset-complete (x ∷ a) [] s =
    and_from (not x) (is_subset a []) (⊎_elim (λ t. absurd (false≢true (s 0 t))) (λ f. ap not f) (cases_Bool x)) (subset-complete a [] (λ i e. s (suc i) e))
subset-complete (x ∷ a) (y ∷ b) s = and_from (not x || y) (is_subset a b) (implies x y (λ e. s 0 e)) (subset-complete a b (λ i e. s (suc i) e))

-- the test of one set in another
pub subset-test : (a b : List Bool) (t : Bool) → (t ≡ true → IsSubset a b) → (IsSubset a b → t ≡ true) → t ≡ is_subset a b
subset-test a b t f g = same_truth t (is_subset a b) (λ h. subset-complete a b (f h)) (λ h. g (subset-sound a b h))

pub same_set-sound : (a b : List Bool) → is_same_set a b ≡ true → IsSubset a b × IsSubset b a
same_set-sound a b h = let p = and_parts (is_subset a b) (is_subset b a) h in (subset-sound a b p.0, subset-sound b a p.1)

pub same_set-complete : (a b : List Bool) → IsSubset a b → IsSubset b a → is_same_set a b ≡ true
same_set-complete a b s t = and_from (is_subset a b) (is_subset b a) (subset-complete a b s) (subset-complete b a t)

-- the same tests by the list of a set's numbers
module _ (a : List Bool) (xs : List ℕ) (L : ListsBelow (λ i. bit a i ≡ true) (length a) xs) where
  pub listed-filled : (b : Bool) → b ≡ eqb (length xs) 0 → not b ≡ is_filled a
  listed-filled b e =
      filled-not a b
      (λ t i. ⊎_elim (λ h. let c = (L.each i).1 (bit-below a i h, h) in absurd (omega (arith, eqb-true (length xs) 0 (sym e ∙ t), c.1))) (λ h. h)
      (cases_Bool (bit a i)))
      (λ none. ⊎_elim
      (λ lt. let c = (L.each (get_or xs 0 0)).0 (Contains-get_or xs 0 0 lt) in absurd (false≢true (sym (none (get_or xs 0 0)) ∙ c.1)))
      (λ le. e ∙ eq-eqb (length xs) 0 (omega (arith, le)))
      (cases_lt 0 (length xs)))

  pub listed-below : (n : ℕ) → length a ≡ n → All (λ i. i < n) xs
  listed-below n e = All-from_get_or (λ i. i < n) xs 0 (λ k lt. let h = (L.each (get_or xs k 0)).0 (Contains-get_or xs k 0 lt) in omega (arith, h.0, e))

  pub listed-subset : (b : List Bool) (t : Bool) → (t ≡ true → All (λ i. bit b i ≡ true) xs) → (All (λ i. bit b i ≡ true) xs → t ≡ true) → t ≡ is_subset a b
  listed-subset b t f g =
      subset-test a b t
      (λ h i e. All-contains (λ i. bit b i ≡ true) xs i (f h) ((L.each i).1 (bit-below a i e, e)))
      (λ s. g (All-from_get_or (λ i. bit b i ≡ true) xs 0 (λ k lt. s (get_or xs k 0) ((L.each (get_or xs k 0)).0 (Contains-get_or xs k 0 lt)).1)))
