-- One number more in a row of numbers.
use Rattle.std.proofs.Common.{◌≡◌, ℕ, suc, ◌+◌, List, [], ◌∷◌, ◌++◌, map, refl, sym, ap, ◌∙◌, arith}
use Rattle.std.specs.List.{range_with_len, flat_map}
use Rattle.std.proofs.lemmas.List.{map-append}
use Rattle.std.proofs.lemmas.List.Concat.{flat_map-append}
use Rattle.kaba_base.proofs.ListLemmas.{range_more}

pub one_more : (n : ℕ) → range_with_len 0 (n + 1) ≡ range_with_len 0 n ++ n ∷ []
one_more n =
    let e : n + 1 ≡ suc n = omega arith in
    let z : 0 + n ≡ n = omega arith in
    ap (range_with_len 0) e ∙ range_more 0 n ∙ ap (λ k. range_with_len 0 n ++ k ∷ []) z

pub one_mapped : {A : Type 0} (f : ℕ → A) (n : ℕ) → map f (range_with_len 0 (n + 1)) ≡ map f (range_with_len 0 n) ++ f n ∷ []
one_mapped f n = ap (map f) (one_more n) ∙ map-append f (range_with_len 0 n) (n ∷ [])

pub one_flat : {A : Type 0} (f : ℕ → List A) (n : ℕ) → flat_map f (range_with_len 0 (n + 1)) ≡ flat_map f (range_with_len 0 n) ++ f n
one_flat f n = ap (flat_map f) (one_more n) ∙ flat_map-append f (range_with_len 0 n) (n ∷ []) ∙ ap (λ xs. flat_map f (range_with_len 0 n) ++ xs) (end (f n))
  where
    end : {A : Type 0} (xs : List A) → xs ++ [] ≡ xs
    end [] = refl
    end (x ∷ xs) = ap (λ ys. x ∷ ys) (end xs)

-- one item more behind those that are there
pub one_pushed : {A B : Type 0} (view : A → B) (f : ℕ → B) (old new : List A) (n : ℕ) (a : A) → map view old ≡ map f (range_with_len 0 n)
    → new ≡ old ++ a ∷ [] → view a ≡ f n
    → map view new ≡ map f (range_with_len 0 (n + 1))
one_pushed view f old new n a before push given =
    ap (map view) push ∙ map-append view old (a ∷ []) ∙ ap (λ xs. xs ++ view a ∷ []) before ∙ ap (λ b. map f (range_with_len 0 n) ++ b ∷ []) given
    ∙ sym (one_mapped f n)
