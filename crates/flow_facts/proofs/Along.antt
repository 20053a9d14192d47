-- Equations of lists, carried along equations of their parts.
use Rattle.std.proofs.Common.{◌≡◌, ℕ, Bool, true, false, List, [], ◌∷◌, refl, sym, ap, ◌∙◌, subst, map}
use Rattle.std.specs.Prelude.{cond, nat_lt}
use Rattle.flow_rules.specs.Ordered.{put_in, by_place, once}
use Rattle.flow_rules.specs.Facts.{IsSameSet}

pub once_as : {A K : Type 0} {e f : K → K → Bool} (key : A → K) {xs ys : List A} → e ≡ f → xs ≡ ys → once e key xs ≡ once f key ys
once_as {e = e} key {ys = ys} h k = ap (once e key) k ∙ ap (λ g. once g key ys) h

pub same_set : {A : Type 0} {xs ys : List A} → xs ≡ ys → IsSameSet xs ys
same_set {ys = ys} e = subst (λ l. IsSameSet l ys) (sym e) (λ x. (λ h. h, λ h. h))

module _ {A B : Type 0} (at : A → ℕ) (place : B → ℕ) (f : A → B) (is : (a : A) → place (f a) ≡ at a) where
  test : (x y : A) {b : Bool} → nat_lt (at y) (at x) ≡ b → nat_lt (place (f y)) (place (f x)) ≡ b
  test x y e = ap (λ n. nat_lt n (place (f x))) (is y) ∙ ap (λ n. nat_lt (at y) n) (is x) ∙ e

  map_in : (x : A) (ys : List A) → map f (put_in at x ys) ≡ put_in place (f x) (map f ys)
  map_in x [] = refl
  map_in x (y ∷ ys) =
      elim (nat_lt (at y) (at x)) as (λ b. nat_lt (at y) (at x) ≡ b → map f (cond b (y ∷ put_in at x ys) (x ∷ (y ∷ ys)))
      ≡ put_in place (f x) (f y ∷ map f ys)) [
        | true ↦ λ e. ap (λ l. f y ∷ l) (map_in x ys) ∙ sym (ap (λ b. cond b (f y ∷ put_in place (f x) (map f ys)) (f x ∷ (f y ∷ map f ys))) (test x y e))
        | false ↦ λ e. sym (ap (λ b. cond b (f y ∷ put_in place (f x) (map f ys)) (f x ∷ (f y ∷ map f ys))) (test x y e))
      ] refl

  pub map-by_place : (xs : List A) → map f (by_place at xs) ≡ by_place place (map f xs)
  map-by_place [] = refl
  map-by_place (x ∷ xs) = map_in x (by_place at xs) ∙ ap (put_in place (f x)) (map-by_place xs)
