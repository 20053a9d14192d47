-- A stable sort by place gives the list by its places.
use Rattle.std.proofs.Common.{◌≡◌, ℕ, suc, ◌<◌, ◌≤◌, Bool, true, false, List, [], ◌∷◌, length, refl, sym, ap, ◌∙◌, subst, arith, ⊎_elim, ◌⊎◌}
use mathlib.Core.Path.{fun_ext}
use Rattle.std.specs.Prelude.{filter, nat_lt, ◌==◌, cond, slice_index_or}
use Rattle.std.specs.Ordering.{nat_cmp, is_lt}
use Rattle.std.specs.List.Sorted.{IsSortedByKey, IsStableByKey, IsSortedByKeyClosure, IsStableByKeyClosure, IsNonDecreasingBy, ties}
use Rattle.std.specs.Fn.{Called}
use Rattle.std.proofs.lemmas.Fn.{always_returns_same}
use Rattle.std.proofs.Common.{ltb-true, eqb-true, eq-eqb}
use denote.Param.Members.{Mut}
use denote.Ref.{Bor}
use Rattle.std.proofs.lemmas.List.Sorted.{IsNonDecreasingBy-from_sort}
use Rattle.flow_rules.specs.Ordered.{put_in, by_place}
use Rattle.flow_rules.proofs.ByPlace as places

module _ {A : Type 0} (at : A → ℕ) where
  abbrev Low : ℕ → List A → Type 0
  Low n zs = places.Low at n zs

  abbrev Rising : List A → Type 0
  Rising zs = places.Rising at zs

  abbrev kept : ℕ → List A → List A
  kept n xs = filter (λ y. n == at y) xs

  -- from positions
  low_from : (n : ℕ) (zs : List A) → ((j : ℕ) (d : A) → j < length zs → n ≤ at (slice_index_or zs j d)) → Low n zs
  low_from n [] h = tt
  low_from n (z ∷ zs) h = (h 0 z (omega arith), low_from n zs (λ j d l. h (suc j) d (omega (arith, l))))

  rising_from : (zs : List A) → IsNonDecreasingBy at zs → Rising zs
  rising_from [] h = tt
  rising_from (z ∷ zs) h = (
    low_from (at z) zs (λ j d l. h 0 (suc j) d (omega arith) (omega (arith, l))),
    rising_from zs
        (λ i j d le l. h (suc i) (suc j) d (omega (arith, le)) (omega (arith, l))),
  )

  -- what of one place is kept
  swapped : (p q : Bool) (a z : A) (zs ws : List A) → (p ≡ true → q ≡ true → ⊥) → ws ≡ cond p (a ∷ zs) zs
      → cond q (z ∷ ws) ws ≡ cond p (a ∷ cond q (z ∷ zs) zs) (cond q (z ∷ zs) zs)
  swapped true true a z zs ws h e = absurd (h refl refl)
  swapped true false a z zs ws h e = e
  swapped false true a z zs ws h e = ap (λ l. z ∷ l) e
  swapped false false a z zs ws h e = e

  kept_in : (n : ℕ) (a : A) (zs : List A) → kept n (put_in at a zs) ≡ kept n (a ∷ zs)
  kept_in n a [] = refl
  kept_in n a (z ∷ zs) =
      elim (nat_lt (at z) (at a)) as (λ b. nat_lt (at z) (at a) ≡ b → kept n (cond b (z ∷ put_in at a zs) (a ∷ (z ∷ zs))) ≡ kept n (a ∷ (z ∷ zs))) [
        | true ↦ λ e. swapped (n == at a) (n == at z) a z (kept n zs) (kept n (put_in at a zs))
            (λ f g. let l = ltb-true (at z) (at a) e in let m = eqb-true n (at a) f in let k = eqb-true n (at z) g in omega (arith, l, m, k))
            (kept_in n a zs)
        | false ↦ λ e. refl
      ] refl

  kept_all : (n : ℕ) (xs : List A) → kept n (by_place at xs) ≡ kept n xs
  kept_all n [] = refl
  kept_all n (x ∷ xs) = kept_in n x (by_place at xs) ∙ ap (λ l. cond (n == at x) (x ∷ l) l) (kept_all n xs)

  none_low : (m n : ℕ) (zs : List A) → m < n → Low n zs → kept m zs ≡ []
  none_low m n [] h l = refl
  none_low m n (z ∷ zs) h l =
      elim (m == at z) as (λ b. (m == at z) ≡ b → cond b (z ∷ kept m zs) (kept m zs) ≡ []) [
        | true ↦ λ e. let q = eqb-true m (at z) e in absurd
            (omega (arith, q, h, l.0))
        | false ↦ λ e. none_low m n zs h l.1
      ] refl

  own : (a : A) (zs : List A) → kept (at a) (a ∷ zs) ≡ a ∷ kept (at a) zs
  own a zs = ap (λ b. cond b (a ∷ kept (at a) zs) (kept (at a) zs)) (eq-eqb (at a) (at a) refl)

  head_tail : (a b : A) (us vs : List A) → a ∷ us ≡ b ∷ vs → (a ≡ b) × (us ≡ vs)
  head_tail a b us vs e = (ap (λ l. head_or a l) e, ap tail_of e)
    where
      head_or : A → List A → A
      head_or d [] = d
      head_or d (x ∷ xs) = x

      tail_of : List A → List A
      tail_of [] = []
      tail_of (x ∷ xs) = xs

  empty_not : (a : A) (us : List A) → [] ≡ a ∷ us → ⊥
  empty_not a us e = cc

  rest_of : (x a b : A) (us vs : List A) → a ≡ b → kept (at x) (a ∷ us) ≡ kept (at x) (b ∷ vs) → kept (at a) us ≡ kept (at a) vs
      → kept (at x) us ≡ kept (at x) vs
  rest_of x a b us vs e h own_rest =
      elim (at x == at a) as (λ c. (at x == at a) ≡ c → cond c (a ∷ kept (at x) us) (kept (at x) us) ≡ kept (at x) (b ∷ vs) → kept (at x) us ≡ kept (at x) vs) [
        | true ↦ λ eq g. let n : at x ≡ at a = eqb-true (at x) (at a) eq in subst (λ k. kept k us ≡ kept k vs) (sym n) own_rest
        | false ↦ λ ne g. g ∙ ap (λ c. cond c (b ∷ kept (at x) vs) (kept (at x) vs)) (subst (λ y. (at x == at y) ≡ false) e ne)
      ] refl h

  alone : (us vs : List A) → Rising us → Rising vs → ((x : A) → kept (at x) us ≡ kept (at x) vs) → us ≡ vs
  alone [] [] ru rv h = refl
  alone [] (b ∷ vs) ru rv h = absurd (empty_not b _ (h b ∙ own b vs))
  alone (a ∷ us) [] ru rv h = absurd (empty_not a _ (sym (h a) ∙ own a us))
  alone (a ∷ us) (b ∷ vs) ru rv h =
      ⊎_elim
      (λ lt. absurd (empty_not a _ (sym (h a ∙ none_low (at a) (at b) (b ∷ vs) lt (omega arith, rv.0)) ∙ own a us)))
      (⊎_elim
      (λ lt. absurd (empty_not b _ (sym (none_low (at b) (at a) (a ∷ us) lt (omega arith, ru.0)) ∙ h b ∙ own b vs)))
      (λ eq. let both = head_tail a b _ _ (sym (own a us) ∙ h a ∙ ap (λ k. kept k (b ∷ vs)) eq ∙ own b vs) in
      let mine : kept (at a) us ≡ kept (at a) vs = both.1 ∙ ap (λ k. kept k vs) (sym eq) in
      ap (λ y. y ∷ us) both.0 ∙ ap (λ l. b ∷ l) (alone us vs ru.1 rv.1 (λ x. rest_of x a b us vs both.0 (h x) mine))))
      (three (at a) (at b))
    where
      three : (m n : ℕ) → (m < n) ⊎ ((n < m) ⊎ (m ≡ n))
      three m n = grind arith

  ties_are : (x y : A) → ties (λ u v. is_lt (nat_cmp (at u) (at v))) x y ≡ (at x == at y)
  ties_are x y = grind arith

  ties_kept : (x : A) (zs : List A) → filter (ties (λ u v. is_lt (nat_cmp (at u) (at v))) x) zs ≡ kept (at x) zs
  ties_kept x zs = ap (λ p. filter p zs) (fun_ext (ties_are x))

  pub sorted_is : (xs ys : List A) → IsSortedByKey at nat_cmp ys → IsStableByKey at nat_cmp xs ys → ys ≡ by_place at xs
  sorted_is xs ys s st =
      alone ys (by_place at xs) (rising_from ys (IsNonDecreasingBy-from_sort at ys s)) (places.rising_all at xs)
      (λ x. sym (ties_kept x ys) ∙ st x ∙ ties_kept x xs ∙ sym (kept_all (at x) xs))

  -- the same by what a closure answers
  pub sorted_by_closure : {F : Type 0} {g : Mut F (Bor A × Unit {0}) ℕ} {f : F} (xs ys : List A) → IsSortedByKeyClosure g nat_cmp f ys
      → IsStableByKeyClosure g nat_cmp f xs ys
      → ((a : Bor A × Unit {0}) (r : ℕ) (f' : F) → Called g f a r f' → (r ≡ at a.0.now) × (f' ≡ f)) → ys ≡ by_place at xs
  sorted_by_closure {g = g} {f = f} xs ys s st h = let k = always_returns_same g (λ a r. r ≡ at a.0.now) f h in sorted_is xs ys (s at k) (st at k)
