-- A way upwards along a list of superclasses that ends passes no class twice, so it is no longer than the list.
use Rattle.std.proofs.Common.{◌≡◌, ℕ, suc, ◌+◌, ◌<◌, ◌≤◌, true, false, List, [], ◌∷◌, eqb, length, Option, Some, None, sym, ap, refl, subst, arith, ⊎_elim}
use Rattle.std.specs.Prelude.{slice_get}
use Rattle.std.specs.List.{IsDistinct, AllByRecursion, list_any}
use Rattle.std.specs.Option.{option_and_then}
use Rattle.std.proofs.lemmas.Bool.{or_cases, eqb-true, ne_eqb, false≢true}
use Rattle.std.proofs.lemmas.Map.Keys.{IsDistinct-cons}
use Rattle.std.proofs.lemmas.Map.Steps.{length-le_from_distinct_below}
use Rattle.std.proofs.lemmas.Option.{slice_get_within}
use Rattle.kaba_base.specs.declared.ClassId.{ClassId}
use Rattle.java_core.specs.Nearest.{parent_at}

module _ (parents : List (Option ClassId)) where
  -- from c so many steps lead to a class without a superclass
  pub data Chain : ℕ → ℕ → Type 0 where
    ends : {c : ℕ} → parent_at parents c ≡ None → Chain c 0
    goes_up : {c n : ℕ} {p : ClassId} → parent_at parents c ≡ Some p → Chain p.0 n → Chain c (suc n)

  one-length : {c n m : ℕ} → Chain c n → Chain c m → n ≡ m
  one-length (ends e) (ends f) = refl
  one-length (ends e) (goes_up f k) = absurd (cc (e, f))
  one-length (goes_up e h) (ends f) = absurd (cc (e, f))
  one-length (goes_up {p = p} e h) (goes_up {n = m} {p = q} f k) = let same : q ≡ p = cc (e, f) in ap suc (one-length h (subst (λ z. Chain z.0 m) same k))

  below : (c : ℕ) (p : ClassId) → parent_at parents c ≡ Some p → c < length parents
  below c p e = go (slice_get parents c) refl e
    where
      go : (o : Option (Option ClassId)) → slice_get parents c ≡ o → option_and_then (λ x. x) o ≡ Some p → c < length parents
      go None f g = absurd (cc g)
      go (Some x) f g = slice_get_within parents c x f

  -- a class that was passed is in the list, and more steps are left from it
  record IsPassed (n q : ℕ) : Type 0 where
    inside : q < length parents
    steps : ℕ
    more : n < steps
    chain : Chain q steps

  abbrev Passed : ℕ → List ℕ → Type 0
  Passed n seen = AllByRecursion (λ q. IsPassed n q) seen

  fewer : (n : ℕ) (seen : List ℕ) → Passed (suc n) seen → Passed n seen
  fewer n [] h = tt
  fewer n (q ∷ seen) h =
      (record { inside = h.0.inside; steps = h.0.steps; more = let m = h.0.more in omega (arith, m); chain = h.0.chain }, fewer n seen h.1)

  apart : (n c : ℕ) → Chain c n → (seen : List ℕ) → Passed n seen → AllByRecursion (λ q. eqb c q ≡ false) seen
  apart n c k [] h = tt
  apart n c k (q ∷ seen) h = (
    ne_eqb c q
        (λ e. let m = h.0.more in let same = one-length k (subst (λ z. Chain z h.0.steps) (sym e) h.0.chain) in omega (arith, m, same)),
    apart n c k seen h.1,
  )

  within : (n : ℕ) (seen : List ℕ) → Passed n seen → (q : ℕ) → list_any (eqb q) seen ≡ true → q < length parents
  within n [] h q e = absurd (false≢true e)
  within n (x ∷ seen) h q e = ⊎_elim (λ one. subst (λ y. y < length parents) (sym (eqb-true q x one)) h.0.inside) (λ more. within n seen h.1 q more)
      (or_cases (eqb q x) (list_any (eqb q) seen) e)

  short-from : {c n : ℕ} → Chain c n → (seen : List ℕ) → Passed n seen → IsDistinct eqb seen → n + length seen ≤ length parents
  short-from (ends e) seen h d = let l = length-le_from_distinct_below seen (length parents) d (within 0 seen h) in omega (arith, l)
  short-from (goes_up {c = c} {n = n} {p = p} e k) seen h d =
      let rest = short-from k (c ∷ seen)
      (record { inside = below c p e; steps = suc n; more = omega arith; chain = goes_up e k }, fewer n seen h)
      (IsDistinct-cons eqb c seen (apart (suc n) c (goes_up e k) seen h) d) in
      omega (arith, rest)

  pub short : {c n : ℕ} → Chain c n → n ≤ length parents
  unfolding IsDistinct
  short k = let l = short-from k [] tt tt in omega (arith, l)
