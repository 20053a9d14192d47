-- Lists in which items were written back.
use Rattle.std.proofs.Common.{◌≡◌, ⊎_elim, ℕ, zero, suc, ◌+◌, ◌<◌, ◌≤◌, Bool, true, false, List, [], ◌∷◌, ◌++◌, length, get_or, set, All, Some, refl, sym, ap, ◌∙◌, arith, add-one}
use Rattle.std.proofs.lemmas.Bool.{cases_Bool, cases_eq, false≢true}
use Rattle.std.proofs.lemmas.List.{ext_get_or, get_or-set_same, get_or-set_other, length-set, append-nil}
use Rattle.std.proofs.lemmas.List.Elements.{All-append, All-pop}
use Rattle.kaba_bits.specs.Sets.{IsNoneFrom, IsLeastFrom}
use Rattle.kaba_order.specs.Written.{written, each_below, only_if}

pub written-append : {X : Type 0} (xs : List X) (ws vs : List (ℕ × X)) → written xs (ws ++ vs) ≡ written (written xs vs) ws
written-append xs [] vs = refl
written-append xs (w ∷ ws) vs = ap (λ l. set l w.0 w.1) (written-append xs ws vs)

pub length-written : {X : Type 0} (xs : List X) (ws : List (ℕ × X)) → length (written xs ws) ≡ length xs
length-written xs [] = refl
length-written xs (w ∷ ws) = length-set (written xs ws) w.0 w.1 ∙ length-written xs ws

module _ {X : Type 0} (d : X) (t : ℕ → Bool) (v : ℕ → X) where
  abbrev writes : ℕ → List (ℕ × X)
  writes n = each_below n (λ k. only_if (t k) (k, v k))

  one_kept : (b : Bool) (n k : ℕ) (xs : List X) → (k ≡ n → b ≡ false) → get_or (written xs (only_if b (n, v n))) k d ≡ get_or xs k d
  one_kept true n k xs h = get_or-set_other xs n k (v n) d (λ e. false≢true (sym (h e)))
  one_kept false n k xs h = refl

  one_put : (b : Bool) (n : ℕ) (xs : List X) → n < length xs → b ≡ true → get_or (written xs (only_if b (n, v n))) n d ≡ v n
  one_put true n xs lt h = get_or-set_same xs n (v n) d lt
  one_put false n xs lt h = absurd (false≢true h)

  -- where nothing is written the list is as before
  pub written_kept : (n k : ℕ) (xs : List X) → (k < n → t k ≡ false) → get_or (written xs (writes n)) k d ≡ get_or xs k d
  written_kept zero k xs h = refl
  written_kept (suc n) k xs h =
      let one : List (ℕ × X) = only_if (t n) (n, v n) in
      ap (λ l. get_or l k d) (written-append xs (writes n) one)
      ∙ (written_kept n k (written xs one) (λ lt. h (omega (arith, lt)))
      ∙ one_kept (t n) n k xs (λ e. ap t (sym e) ∙ h (omega (arith, e))))

  -- where something is written, that is there
  pub written_put : (n k : ℕ) (xs : List X) → k < n → n ≤ length xs → t k ≡ true → get_or (written xs (writes n)) k d ≡ v k
  written_put zero k xs lt le h = absurd (omega (arith, lt))
  written_put (suc n) k xs lt le h =
      let one : List (ℕ × X) = only_if (t n) (n, v n) in
      ap (λ l. get_or l k d) (written-append xs (writes n) one)
      ∙ ⊎_elim
      (λ e. written_kept n k (written xs one) (λ below. absurd (omega (arith, below, e)))
      ∙ (ap (λ j. get_or (written xs one) j d) e ∙ (one_put (t n) n xs (omega (arith, le)) (ap t (sym e) ∙ h) ∙ ap v (sym e))))
      (λ ne. written_put n k (written xs one) (omega (arith, lt, ne)) (omega (arith, le, length-written xs one)) h)
      (cases_eq k n)

-- a list is another again, where each item that differs is written
pub written_back : {X : Type 0} (d : X) (xs target : List X) (n : ℕ) (t : ℕ → Bool) → length xs ≡ length target → n ≡ length target
    → ((k : ℕ) → k < n → t k ≡ false → get_or xs k d ≡ get_or target k d)
    → written xs (each_below n (λ k. only_if (t k) (k, get_or target k d))) ≡ target
written_back d xs target n t len count same =
    let v : ℕ → _ = λ k. get_or target k d in
    let ws : List (ℕ × _) = each_below n (λ k. only_if (t k) (k, v k)) in
    ext_get_or d (written xs ws) target (length-written xs ws ∙ len)
    (λ k lt.
    let below : k < n = omega (arith, lt, length-written xs ws, len, count) in
    ⊎_elim
    (λ yes. written_put d t v n k xs below (omega (arith, count, len)) yes)
    (λ no. written_kept d t v n k xs (λ _. no) ∙ same k below no)
    (cases_Bool (t k)))

pub each_below-more : {A : Type 0} (n : ℕ) (f : ℕ → List A) → each_below (n + 1) f ≡ each_below n f ++ f n
each_below-more n f = ap (λ m. each_below m f) (add-one n)

-- numbers that fail the test list nothing
each_below-past : {A : Type 0} (t : ℕ → Bool) (v : ℕ → A) (at n : ℕ) → at ≤ n → IsNoneFrom t at n
    → each_below n (λ k. only_if (t k) (v k)) ≡ each_below at (λ k. only_if (t k) (v k))
each_below-past t v at zero le none = let e : zero ≡ at = omega (arith, le) in ap (λ m. each_below m (λ k. only_if (t k) (v k))) e
each_below-past t v at (suc n) le none =
    let f : ℕ → List _ = λ k. only_if (t k) (v k) in
    ⊎_elim
    (λ e. ap (λ m. each_below m f) (sym e))
    (λ ne. ap (λ b. each_below n f ++ only_if b (v n)) (none n (omega (arith, le, ne)) (omega arith))
    ∙ (append-nil (each_below n f) ∙ each_below-past t v at n (omega (arith, le, ne)) (λ k low below. none k low (omega (arith, below)))))
    (cases_eq at (suc n))

-- a walk from one number that passes a test to the next
module _ {A : Type 0} (t : ℕ → Bool) (v : ℕ → A) (at : ℕ) (listed : List A) (is : listed ≡ each_below at (λ k. only_if (t k) (v k))) where
  pub each_below-next : (k : ℕ) (new : List A) → IsLeastFrom t at k → new ≡ listed ++ v k ∷ [] → new ≡ each_below (k + 1) (λ k. only_if (t k) (v k))
  each_below-next k new next e =
      let f : ℕ → List A = λ k. only_if (t k) (v k) in
      e ∙ (ap (λ l. l ++ v k ∷ []) (is ∙ sym (each_below-past t v at k next.low next.least))
      ∙ (ap (λ b. each_below k f ++ only_if b (v k)) (sym next.holds) ∙ sym (each_below-more k f)))

  pub each_below-all : (n : ℕ) → at ≤ n → IsNoneFrom t at n → listed ≡ each_below n (λ k. only_if (t k) (v k))
  each_below-all n le none = is ∙ sym (each_below-past t v at n le none)

pub All-only : {A : Type 0} (P : A → Type 0) (t : Bool) (x : A) → (t ≡ true → P x) → All P (only_if t x)
All-only P true x h = λ i d lt. elim i as (λ j. j < 1 → P (get_or (x ∷ []) j d)) [
  | zero ↦ λ _. h refl
  | suc j ↦ λ below. absurd (omega (arith, below))
] lt
All-only P false x h = λ i d lt. absurd (omega (arith, lt))

pub All-each : {A : Type 0} (P : A → Type 0) (n : ℕ) (f : ℕ → List A) → ((k : ℕ) → k < n → All P (f k)) → All P (each_below n f)
All-each P zero f h = λ i d lt. absurd (omega (arith, lt))
All-each P (suc n) f h = All-append P (each_below n f) (f n) (All-each P n f (λ k lt. h k (omega (arith, lt)))) (h n (omega arith))

-- the last of some items, written
module _ {X : Type 0} (xs : List X) (before after : List (ℕ × X)) (w : ℕ × X) (is : before ≡ after ++ w ∷ []) where
  pub written_step : (all : List X) → written xs before ≡ all → written (set xs w.0 w.1) after ≡ all
  written_step all e = sym (written-append xs after (w ∷ [])) ∙ (ap (written xs) (sym is) ∙ e)

  pub within_step : All (λ (x : ℕ × X). x.0 < length xs) before → All (λ (x : ℕ × X). x.0 < length (set xs w.0 w.1)) after
  within_step all i d lt = omega (arith, (All-pop (λ (x : ℕ × X). x.0 < length xs) before after (Some w) is all).0 i d lt, length-set xs w.0 w.1)
