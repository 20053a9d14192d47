-- Lists of a type of their own, on which items are put one by one.
use Rattle.std.proofs.Common.{◌≡◌, List, [], ◌∷◌, refl, ap, ◌∙◌}

-- the items, one behind the other, as such a list
abbrev pub listed : {X L : Type 0} → L → (X → L → L) → List X → L
listed nil then [] = nil
listed nil then (x ∷ xs) = then x (listed nil then xs)

-- the items, put behind what is there
abbrev pub pushed : {X L : Type 0} → (L → X → L) → L → List X → L
pushed last done [] = done
pushed last done (x ∷ xs) = pushed last (last done x) xs

module _ {X L : Type 0} (nil : L) (then : X → L → L) (last : L → X → L)
    (one : (x : X) → last nil x ≡ then x nil) (more : (x : X) (xs : L) (y : X) → last (then x xs) y ≡ then x (last xs y)) where
  pub pushed-then : (x : X) (done : L) (xs : List X) → pushed last (then x done) xs ≡ then x (pushed last done xs)
  pushed-then x done [] = refl
  pushed-then x done (y ∷ xs) = ap (λ z. pushed last z xs) (more x done y) ∙ pushed-then x (last done y) xs

  pub pushed-all : (xs : List X) → pushed last nil xs ≡ listed nil then xs
  pushed-all [] = refl
  pushed-all (x ∷ xs) = ap (λ z. pushed last z xs) (one x) ∙ pushed-then x nil xs ∙ ap (then x) (pushed-all xs)
