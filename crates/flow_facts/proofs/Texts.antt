-- Texts seen by their bytes.
use Rattle.std.proofs.Common.{◌≡◌, ℕ, Bool, true, false, List, [], ◌∷◌, ◌++◌, refl, ap, ◌∙◌, map}
use Rattle.std.specs.Prelude.{cond, ◌||◌}
use Rattle.std.specs.List.{list_any}
use Rattle.std.specs.Str.{bytes_eq}
use Rattle.std.proofs.lemmas.List.{map-append}
use Rattle.indexmap.specs.IndexSet.{insert_key}

module _ {K : Type 0} (f : K → List ℕ) (eq : K → K → Bool) (is : (a b : K) → eq a b ≡ bytes_eq (f a) (f b)) where
  pub any_as : (k : K) (ks : List K) → list_any (eq k) ks ≡ list_any (bytes_eq (f k)) (map f ks)
  any_as k [] = refl
  any_as k (x ∷ xs) = ap (λ b. b || list_any (eq k) xs) (is k x) ∙ ap (λ b. bytes_eq (f k) (f x) || b) (any_as k xs)

  chosen : (b : Bool) (k : K) (ks : List K) → map f (cond b ks (ks ++ k ∷ [])) ≡ cond b (map f ks) (map f ks ++ f k ∷ [])
  chosen true k ks = refl
  chosen false k ks = map-append f ks (k ∷ [])

  pub inserted_as : (k : K) (ks : List K) → map f (insert_key eq ks k) ≡ insert_key bytes_eq (map f ks) (f k)
  inserted_as k ks = chosen (list_any (eq k) ks) k ks ∙ ap (λ b. cond b (map f ks) (map f ks ++ f k ∷ [])) (any_as k ks)
