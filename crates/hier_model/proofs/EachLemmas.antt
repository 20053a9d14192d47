-- What is listed at each number below another.
use Rattle.std.proofs.Common.{◌≡◌, ◌≢◌, ⊎_elim, ℕ, zero, suc, ◌+◌, ◌<◌, ◌≤◌, Bool, true, false, ◌&&◌, List, [], ◌∷◌, ◌++◌, get_or, All, refl, sym, ap, ◌∙◌, arith, add-one}
use Rattle.std.specs.List.{flat_map}
use Rattle.std.proofs.lemmas.Bool.{cases_eq, cases_lt}
use Rattle.std.proofs.lemmas.List.{append-nil}
use Rattle.std.proofs.lemmas.List.Concat.{flat_map-append}
use Rattle.std.proofs.lemmas.List.Elements.{All-append}
use Rattle.kaba_order.specs.Flips.{flip_where, is_flipped}
use Rattle.kaba_order.specs.Written.{each_below, only_if}
use Rattle.kaba_order.proofs.FlipLemmas.{flip_none, is_flipped-append}

pub each_below-same : {A : Type 0} (n : ℕ) (f g : ℕ → List A) → ((k : ℕ) → f k ≡ g k) → each_below n f ≡ each_below n g
each_below-same zero f g e = refl
each_below-same (suc n) f g e = rw (each_below-same n f g e, e n) refl

pub each_below-none : {A : Type 0} (n : ℕ) (f : ℕ → List A) → ((k : ℕ) → f k ≡ []) → each_below n f ≡ []
each_below-none zero f e = refl
each_below-none (suc n) f e = rw (each_below-none n f e, e n) refl

-- numbers that list nothing may be left out
pub each_below-past : {A : Type 0} (at n : ℕ) (f : ℕ → List A) → at ≤ n → ((k : ℕ) → at ≤ k → k < n → f k ≡ []) → each_below n f ≡ each_below at f
each_below-past at zero f le none = let e : zero ≡ at = omega (arith, le) in ap (λ m. each_below m f) e
each_below-past at (suc n) f le none =
    ⊎_elim
    (λ lt.
    let front : each_below n f ≡ each_below at f = each_below-past at n f (omega (arith, lt)) (λ k low below. none k low (omega (arith, below))) in
    ap (λ l. each_below n f ++ l) (none n (omega (arith, lt)) (omega arith)) ∙ (append-nil (each_below n f) ∙ front))
    (λ ge. let e : suc n ≡ at = omega (arith, le, ge) in ap (λ m. each_below m f) e)
    (cases_lt at (suc n))

pub flat_map-each : {A B : Type 0} (h : A → List B) (n : ℕ) (f : ℕ → List A) → flat_map h (each_below n f) ≡ each_below n (λ k. flat_map h (f k))
flat_map-each h zero f = refl
flat_map-each h (suc n) f = flat_map-append h (each_below n f) (f n) ∙ ap (λ l. l ++ flat_map h (f n)) (flat_map-each h n f)

-- what a test lists, seen through another list
pub one_if : {A B : Type 0} (h : A → List B) (t : Bool) (x : A) (y : B) → h x ≡ y ∷ [] → flat_map h (only_if t x) ≡ only_if t y
one_if h true x y e = append-nil (h x) ∙ e
one_if h false x y e = refl

pub none_if : {A B : Type 0} (h : A → List B) (t : Bool) (x : A) → h x ≡ [] → flat_map h (only_if t x) ≡ []
none_if h true x e = append-nil (h x) ∙ e
none_if h false x e = refl

-- exchanges of which each number's are seen at that number alone
pub flipped_nowhere : {A : Type 0} (p : A → Bool) (n : ℕ) (f : ℕ → List A) → ((k : ℕ) → k < n → is_flipped p (f k) ≡ false)
    → is_flipped p (each_below n f) ≡ false
flipped_nowhere p zero f e = refl
flipped_nowhere p (suc n) f e =
    is_flipped-append p (each_below n f) (f n) ∙ rw (flipped_nowhere p n f (λ k lt. e k (omega (arith, lt))), e n (omega arith)) refl

pub flipped_at : {A : Type 0} (p : A → Bool) (n : ℕ) (f : ℕ → List A) (k : ℕ) → k < n → ((j : ℕ) → j ≢ k → is_flipped p (f j) ≡ false)
    → is_flipped p (each_below n f) ≡ is_flipped p (f k)
flipped_at p zero f k lt e = absurd (omega (arith, lt))
flipped_at p (suc n) f k lt e =
    is_flipped-append p (each_below n f) (f n)
    ∙ ⊎_elim
    (λ here.
    let below = flipped_nowhere p n f (λ j jn. e j (λ jk. omega (arith, jn, jk, here))) in
    ap (λ b. flip_where b (is_flipped p (f n))) below ∙ ap (λ m. is_flipped p (f m)) (sym here))
    (λ other. rw (flipped_at p n f k (omega (arith, lt, other)) e, e n (λ nk. other (sym nk))) (flip_none (is_flipped p (f k))))
    (cases_eq k n)

pub flipped_only : {A : Type 0} (p : A → Bool) (t : Bool) (x : A) → is_flipped p (only_if t x) ≡ (t && p x)
flipped_only p true x = flip_none (p x)
flipped_only p false x = refl
