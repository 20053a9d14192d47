-- Whether some type is at or below two.
use Rattle.std.proofs.Common.{◌≡◌, ℕ, zero, suc, Bool, true, false, ◌&&◌, List, [], ◌∷◌, refl, sym, ap, ◌∙◌}
use Rattle.std.specs.Prelude.{slice_get, if◌then◌else◌}
use Rattle.std.proofs.lemmas.Bool.{false≢true, and_parts}
use Rattle.java_core.specs.Squares.{bit_in, row_in, is_above}
use Rattle.java_core.specs.Squares.{meet}

pub meets : (rs : List (List Bool)) (c a b : ℕ) → row_in (slice_get rs c) a ≡ true → row_in (slice_get rs c) b ≡ true → meet rs a b ≡ true
meets [] c a b p q = absurd (false≢true p)
meets (row ∷ rs) zero a b p q = ap (λ z. if z && bit_in (slice_get row b) then true else meet rs a b) p ∙ ap (λ z. if z then true else meet rs a b) q
meets (row ∷ rs) (suc c) a b p q = go (bit_in (slice_get row a) && bit_in (slice_get row b)) (meets rs c a b p q)
  where
    go : (x : Bool) → meet rs a b ≡ true → (if x then true else meet rs a b) ≡ true
    go true e = refl
    go false e = e

pub meet-stands : (rs : List (List Bool)) (a b : ℕ) → meet rs a b ≡ true → (c : ℕ) × (is_above rs c a ≡ true) × (is_above rs c b ≡ true)
meet-stands [] a b e = absurd (false≢true e)
meet-stands (row ∷ rs) a b e = go (bit_in (slice_get row a) && bit_in (slice_get row b)) refl (meet-stands rs a b)
  where
    go : (x : Bool) → bit_in (slice_get row a) && bit_in (slice_get row b) ≡ x
        → (meet rs a b ≡ true → (c : ℕ) × (is_above rs c a ≡ true) × (is_above rs c b ≡ true))
        → (c : ℕ) × (is_above (row ∷ rs) c a ≡ true) × (is_above (row ∷ rs) c b ≡ true)
    go true f more = let g = and_parts (bit_in (slice_get row a)) (bit_in (slice_get row b)) f in (0, g.0, g.1)
    go false f more = let g = more (sym (ap (λ z. if z then true else meet rs a b) f) ∙ e) in (suc g.0, g.1, g.2)
