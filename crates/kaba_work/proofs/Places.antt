-- What stands at which place of a list that is made of numbers.
use Rattle.std.proofs.Common.{◌≡◌, ℕ, zero, suc, ◌+◌, ◌*◌, ◌<◌, ◌⊎◌, inl, inr, [], ◌∷◌, ◌++◌, map, Option, Some, refl, sym, ap, ◌∙◌, arith}
use Rattle.std.specs.Prelude.{slice_get}
use Rattle.std.specs.List.{range_with_len, flat_map}
use Rattle.std.proofs.lemmas.Option.{same_Some}

-- x stands at i in a list of f 0 to f (n - 1) and z
pub data StandsAt {A : Type 0} (f : ℕ → A) (z : A) (n i : ℕ) (x : A) : Type 0 where
  is_row : i < n → x ≡ f i → StandsAt f z n i x
  is_last : i ≡ n → x ≡ z → StandsAt f z n i x

stands_from : {A : Type 0} (f : ℕ → A) (z : A) (a n i : ℕ) (x : A) → slice_get (map f (range_with_len a n) ++ z ∷ []) i ≡ Some x
    → ((i < n) × (x ≡ f (a + i))) ⊎ ((i ≡ n) × (x ≡ z))
stands_from f z a zero zero x e = inr (refl, sym (same_Some z x e))
stands_from f z a zero (suc i) x e = absurd (cc e)
stands_from f z a (suc n) zero x e = let s : a ≡ a + 0 = omega arith in inl (omega arith, sym (same_Some (f a) x e) ∙ ap f s)
stands_from f z a (suc n) (suc i) x e =
    let s : a + 1 + i ≡ a + suc i = omega arith in
    elim (stands_from f z (a + 1) n i x e) [ inl h ↦ inl (omega (arith, h.0), h.1 ∙ ap f s) | inr h ↦ inr (ap suc h.0, h.1) ]

pub stands : {A : Type 0} (f : ℕ → A) (z : A) (n i : ℕ) (x : A) → slice_get (map f (range_with_len 0 n) ++ z ∷ []) i ≡ Some x → StandsAt f z n i x
stands f z n i x e =
    let s : 0 + i ≡ i = omega arith in
    elim (stands_from f z 0 n i x e) [ inl h ↦ is_row h.0 (h.1 ∙ ap f s) | inr h ↦ is_last h.0 h.1 ]

row_from : {A : Type 0} (f : ℕ → A) (z : A) (a n i : ℕ) → i < n → slice_get (map f (range_with_len a n) ++ z ∷ []) i ≡ Some (f (a + i))
row_from f z a zero i h = absurd (omega (arith, h))
row_from f z a (suc n) zero h = let s : a ≡ a + 0 = omega arith in ap (λ k. Some (f k)) s
row_from f z a (suc n) (suc i) h = let s : a + 1 + i ≡ a + suc i = omega arith in row_from f z (a + 1) n i (omega (arith, h)) ∙ ap (λ k. Some (f k)) s

pub row_at : {A : Type 0} (f : ℕ → A) (z : A) (n i : ℕ) → i < n → slice_get (map f (range_with_len 0 n) ++ z ∷ []) i ≡ Some (f i)
row_at f z n i h = let s : 0 + i ≡ i = omega arith in row_from f z 0 n i h ∙ ap (λ k. Some (f k)) s

last_from : {A : Type 0} (f : ℕ → A) (z : A) (a n : ℕ) → slice_get (map f (range_with_len a n) ++ z ∷ []) n ≡ Some z
last_from f z a zero = refl
last_from f z a (suc n) = last_from f z (a + 1) n

pub last_at : {A : Type 0} (f : ℕ → A) (z : A) (n : ℕ) → slice_get (map f (range_with_len 0 n) ++ z ∷ []) n ≡ Some z
last_at f z n = last_from f z 0 n

-- x stands at j in a list of pairs
pub data PairAt {A : Type 0} (f g : ℕ → A) (n j : ℕ) (x : A) : Type 0 where
  is_first : (i : ℕ) → i < n → j ≡ 2 * i → x ≡ f i → PairAt f g n j x
  is_second : (i : ℕ) → i < n → j ≡ 2 * i + 1 → x ≡ g i → PairAt f g n j x

pair_from : {A : Type 0} (f g : ℕ → A) (a n j : ℕ) (x : A) → slice_get (flat_map (λ i. f i ∷ g i ∷ []) (range_with_len a n)) j ≡ Some x
    → (i : ℕ) × (i < n) × (((j ≡ 2 * i) × (x ≡ f (a + i))) ⊎ ((j ≡ 2 * i + 1) × (x ≡ g (a + i))))
pair_from f g a zero j x e = absurd (cc e)
pair_from f g a (suc n) zero x e = let s : a ≡ a + 0 = omega arith in (0, omega arith, inl (refl, sym (same_Some (f a) x e) ∙ ap f s))
pair_from f g a (suc n) (suc zero) x e = let s : a ≡ a + 0 = omega arith in (0, omega arith, inr (refl, sym (same_Some (g a) x e) ∙ ap g s))
pair_from f g a (suc n) (suc (suc j)) x e =
    let z = pair_from f g (a + 1) n j x e in
    let s : a + 1 + z.0 ≡ a + suc z.0 = omega arith in
    (suc z.0, omega (arith, z.1), elim z.2 [ inl h ↦ inl (omega (arith, h.0), h.1 ∙ ap f s) | inr h ↦ inr (omega (arith, h.0), h.1 ∙ ap g s) ])

pub pair_stands : {A : Type 0} (f g : ℕ → A) (n j : ℕ) (x : A) → slice_get (flat_map (λ i. f i ∷ g i ∷ []) (range_with_len 0 n)) j ≡ Some x → PairAt f g n j x
pair_stands f g n j x e =
    let z = pair_from f g 0 n j x e in
    let s : 0 + z.0 ≡ z.0 = omega arith in
    elim z.2 [ inl h ↦ is_first z.0 z.1 h.0 (h.1 ∙ ap f s) | inr h ↦ is_second z.0 z.1 h.0 (h.1 ∙ ap g s) ]

pairs_from : {A : Type 0} (f g : ℕ → A) (a n i : ℕ) → i < n
    → (slice_get (flat_map (λ i. f i ∷ g i ∷ []) (range_with_len a n)) (2 * i) ≡ Some (f (a + i)))
    × (slice_get (flat_map (λ i. f i ∷ g i ∷ []) (range_with_len a n)) (2 * i + 1) ≡ Some (g (a + i)))
pairs_from f g a zero i h = absurd (omega (arith, h))
pairs_from f g a (suc n) zero h = let s : a ≡ a + 0 = omega arith in (ap (λ k. Some (f k)) s, ap (λ k. Some (g k)) s)
pairs_from {A} f g a (suc n) (suc i) h =
    let z = pairs_from f g (a + 1) n i (omega (arith, h)) in
    let s : a + 1 + i ≡ a + suc i = omega arith in
    let d : 2 * suc i ≡ suc (suc (2 * i)) = omega arith in
    let o : 2 * suc i + 1 ≡ suc (suc (2 * i + 1)) = omega arith in
    (ap at d ∙ z.0 ∙ ap (λ k. Some (f k)) s, ap at o ∙ z.1 ∙ ap (λ k. Some (g k)) s)
  where
    at : ℕ → Option A
    at k = slice_get (flat_map (λ i. f i ∷ g i ∷ []) (range_with_len a (suc n))) k

pub first_at : {A : Type 0} (f g : ℕ → A) (n i : ℕ) → i < n → slice_get (flat_map (λ i. f i ∷ g i ∷ []) (range_with_len 0 n)) (2 * i) ≡ Some (f i)
first_at f g n i h = let s : 0 + i ≡ i = omega arith in (pairs_from f g 0 n i h).0 ∙ ap (λ k. Some (f k)) s

pub second_at : {A : Type 0} (f g : ℕ → A) (n i : ℕ) → i < n → slice_get (flat_map (λ i. f i ∷ g i ∷ []) (range_with_len 0 n)) (2 * i + 1) ≡ Some (g i)
second_at f g n i h = let s : 0 + i ≡ i = omega arith in (pairs_from f g 0 n i h).1 ∙ ap (λ k. Some (g k)) s

-- maps over such a list
pub map_ends : {A B : Type 0} (v : A → B) (f : ℕ → A) (g : ℕ → B) (z : A) (a n : ℕ) → ((i : ℕ) → i < a + n → v (f i) ≡ g i)
    → map v (map f (range_with_len a n) ++ z ∷ []) ≡ map g (range_with_len a n) ++ v z ∷ []
map_ends v f g z a zero h = refl
map_ends v f g z a (suc n) h =
    ap (λ x. x ∷ map v (map f (range_with_len (a + 1) n) ++ z ∷ [])) (h a (omega arith))
    ∙ ap (λ xs. g a ∷ xs) (map_ends v f g z (a + 1) n (λ i k. h i (omega (arith, k))))

pub map_pairs : {A B : Type 0} (v : A → B) (f g : ℕ → A) (a n : ℕ)
    → map v (flat_map (λ i. f i ∷ g i ∷ []) (range_with_len a n)) ≡ flat_map (λ i. v (f i) ∷ v (g i) ∷ []) (range_with_len a n)
map_pairs v f g a zero = refl
map_pairs v f g a (suc n) = ap (λ xs. v (f a) ∷ v (g a) ∷ xs) (map_pairs v f g (a + 1) n)

mapped_from : {A : Type 0} (f : ℕ → A) (a n i : ℕ) → i < n → slice_get (map f (range_with_len a n)) i ≡ Some (f (a + i))
mapped_from f a zero i h = absurd (omega (arith, h))
mapped_from f a (suc n) zero h = let s : a ≡ a + 0 = omega arith in ap (λ k. Some (f k)) s
mapped_from f a (suc n) (suc i) h = let s : a + 1 + i ≡ a + suc i = omega arith in mapped_from f (a + 1) n i (omega (arith, h)) ∙ ap (λ k. Some (f k)) s

pub mapped_at : {A : Type 0} (f : ℕ → A) (n i : ℕ) → i < n → slice_get (map f (range_with_len 0 n)) i ≡ Some (f i)
mapped_at f n i h = let s : 0 + i ≡ i = omega arith in mapped_from f 0 n i h ∙ ap (λ k. Some (f k)) s
