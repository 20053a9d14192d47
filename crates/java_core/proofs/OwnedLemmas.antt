-- What is found among the members of one class is what is found by going over all.
use Rattle.std.proofs.Common.{◌≡◌, ℕ, ◌+◌, Bool, true, false, ◌&&◌, cond, List, ◌∷◌, ◌++◌, map, length, Option, Some, refl, sym, ap, ◌∙◌, subst, []}
use Rattle.std.specs.Prelude.{slice_get, ◌==◌, if◌then◌else◌}
use Rattle.std.specs.List.{position, position_from}
use Rattle.std.proofs.lemmas.List.{append_assoc, length-append}
use Rattle.std.proofs.lemmas.Iterator.Adapters.{position_from-zero}
use Rattle.kaba_base.proofs.ListLemmas.{middle}
use Rattle.java_core.specs.Owned.{owned_from, passes, first_among}
use Rattle.java_core.proofs.Positions.{position-same}

module _ {A : Type 0} (owner : A → ℕ) (p : A → Bool) (c : ℕ) where
  among : (done rest : List A) (k : ℕ) → length done ≡ k
      → first_among p (done ++ rest) (owned_from k c (map owner rest)) ≡ position_from (λ x. (owner x == c) && p x) k rest
  among done [] k e = refl
  among done (x ∷ rest) k e =
      by_owner (owner x == c) (p x) (ap (passes p) (subst (λ i. slice_get (done ++ x ∷ rest) i ≡ Some x) e (middle done x rest)))
      (ap (λ w. first_among p w (owned_from (k + 1) c (map owner rest))) (sym (append_assoc done (x ∷ []) rest))
      ∙ among (done ++ x ∷ []) rest (k + 1) (length-append done (x ∷ []) ∙ ap (λ i. i + 1) e))
    where
      more : List ℕ
      more = owned_from (k + 1) c (map owner rest)

      last : Option ℕ
      last = position_from (λ x. (owner x == c) && p x) (k + 1) rest

      by_owner : (b d : Bool) → passes p (slice_get (done ++ x ∷ rest) k) ≡ d → first_among p (done ++ x ∷ rest) more ≡ last
          → first_among p (done ++ x ∷ rest) (cond b (k ∷ more) more) ≡ cond (b && d) (Some k) last
      by_owner true true g h = ap (λ z. if z then Some k else first_among p (done ++ x ∷ rest) more) g
      by_owner true false g h = ap (λ z. if z then Some k else first_among p (done ++ x ∷ rest) more) g ∙ h
      by_owner false d g h = h

  -- what is found among the members of the class is the first of all that are of the class
  pub owned-position : (items : List A) → first_among p items (owned_from 0 c (map owner items)) ≡ position (λ x. (owner x == c) && p x) items
  owned-position items = among [] items 0 refl ∙ sym (position_from-zero (λ x. (owner x == c) && p x) items)

  -- where only members of the class pass, it is the first of all
  pub own-position : ((x : A) → p x ≡ true → (owner x == c) ≡ true) → (items : List A) → first_among p items (owned_from 0 c (map owner items))
      ≡ position p items
  own-position own items = owned-position items ∙ position-same (λ x. (owner x == c) && p x) p (λ x. one (owner x == c) (p x) (own x)) items
    where
      one : (b d : Bool) → (d ≡ true → b ≡ true) → (b && d) ≡ d
      one true d f = refl
      one false false f = refl
      one false true f = cc (f refl)
