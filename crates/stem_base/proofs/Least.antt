-- No list of implications with the two properties is shorter than the base.
use Rattle.std.proofs.Common.{◌≡◌, ◌≢◌, ◌⊎◌, inl, inr, ⊎_elim, ℕ, suc, zero, ◌<◌, ◌≤◌, Bool, true, false, not, ◌&&◌, if◌then◌else◌, eqb, List, [], ◌∷◌, length, map, get_or, All, AllPairs, refl, sym, ap, ◌∙◌, subst, arith}
use Rattle.std.specs.List.{list_any}
use Rattle.std.proofs.lemmas.Bool.{cases_Bool, false≢true, and_parts, eqb-true}
use Rattle.std.proofs.lemmas.Bool.Decides.{Decides-eqb}
use Rattle.std.proofs.lemmas.List.{length-map}
use Rattle.std.proofs.lemmas.Map.Steps.{length-le_from_distinct_below}
use Rattle.std.proofs.lemmas.Map.Made.{IsDistinct-from_AllPairs}
use Rattle.std.proofs.lemmas.Map.Views.{Contains-from_any}
use Rattle.kaba_bits.specs.Sets.{IsSubset}
use Rattle.stem_base.specs.Base.{Sides, IsClosedUnder, is_subset, IsPseudo}
use Rattle.stem_base.proofs.SetLemmas.{subset_is, is_subset_from}
use Rattle.stem_base.proofs.Pseudo.{apart}

-- P breaks an implication
breaks : List Bool → Sides → Bool
breaks P r = is_subset r.0 P && not (is_subset r.1 P)

-- the place of the first one of a list that P breaks
find : List Bool → List Sides → ℕ
find P [] = 0
find P (r ∷ L) = if breaks P r then 0 else suc (find P L)

none : Sides
none = ([], [])

record IsBroken (P : List Bool) (L : List Sides) : Type 0 where
  below : find P L < length L
  broken : breaks P (get_or L (find P L) none) ≡ true

unbroken : (P : List Bool) (r : Sides) (L : List Sides) → breaks P r ≡ false → All (λ r. breaks P r ≡ false) L → All (λ r. breaks P r ≡ false) (r ∷ L)
unbroken P r L f a zero d lt = f
unbroken P r L f a (suc k) d lt = a k d (omega (arith, lt))

found : (P : List Bool) (L : List Sides) → IsBroken P L ⊎ All (λ r. breaks P r ≡ false) L
unfolding find
found P [] = inr (λ k d lt. absurd (omega (arith, lt)))
found P (r ∷ L) = ⊎_elim
    (λ t. let e : find P (r ∷ L) ≡ 0 = rw t refl in inl (record { below = omega (arith, e); broken = rw e t }))
    (λ f. let e : find P (r ∷ L) ≡ suc (find P L) = rw f refl in ⊎_elim
    (λ b. inl (record { below = omega (arith, e, b.below); broken = rw e b.broken }))
    (λ a. inr (unbroken P r L f a))
    (found P L))
    (cases_Bool (breaks P r))

not_true : (b : Bool) → not b ≡ true → b ≡ false
not_true true h = absurd (false≢true h)
not_true false h = refl

broken_left : (P : List Bool) (r : Sides) → breaks P r ≡ true → IsSubset r.0 P
unfolding breaks
broken_left P r h = subset_is r.0 P (and_parts (is_subset r.0 P) (not (is_subset r.1 P)) h).0

broken_right : (P : List Bool) (r : Sides) → breaks P r ≡ true → IsSubset r.1 P → ⊥
unfolding breaks
broken_right P r h s = false≢true (sym (not_true (is_subset r.1 P) (and_parts (is_subset r.0 P) (not (is_subset r.1 P)) h).1) ∙ is_subset_from r.1 P s)

respected : (P : List Bool) (r : Sides) → breaks P r ≡ false → IsSubset r.0 P → IsSubset r.1 P
unfolding breaks
respected P r h s = ⊎_elim (λ t. subset_is r.1 P t)
    (λ f. let g : (is_subset r.0 P && not (is_subset r.1 P)) ≡ true = ap (λ b. b && not (is_subset r.1 P)) (is_subset_from r.0 P s) ∙ ap not f in
    absurd (false≢true (sym h ∙ g)))
    (cases_Bool (is_subset r.1 P))

module _ (w : ℕ) (cl : List Bool → List Bool)
    (wide : (X : List Bool) → length X ≡ w → length (cl X) ≡ w)
    (holds : (X : List Bool) → length X ≡ w → IsSubset X (cl X))
    (grows : (X Y : List Bool) → IsSubset X Y → IsSubset (cl X) (cl Y))
    (L : List Sides) (sound : All (λ r. IsSubset r.1 (cl r.0)) L)
    (closed : (X : List Bool) → length X ≡ w → IsClosedUnder L X → X ≡ cl X) where
  breaks_some : (P : List Bool) → IsPseudo w cl P → IsBroken P L
  breaks_some P p = ⊎_elim (λ b. b) (λ a. absurd (p.1 (closed P p.0 (λ k d lt. respected P (get_or L k d) (a k d lt))))) (found P L)

  -- different pseudo-closed sets first break different ones
  apart_places : (P Q : List Bool) → IsPseudo w cl P → IsPseudo w cl Q → P ≢ Q → find P L ≢ find Q L
  apart_places P Q p q ne e =
      let a = breaks_some P p in
      let b = breaks_some Q q in
      let r = get_or L (find P L) none in
      let there : breaks Q r ≡ true = subst (λ k. breaks Q (get_or L k none) ≡ true) (sym e) b.broken in
      apart w cl wide holds grows P Q r p q ne (sound (find P L) none a.below) (broken_left P r a.broken) (broken_left Q r there)
      (broken_right P r a.broken) (broken_right Q r there)

  places : List Sides → List ℕ
  places base = map (λ r. find r.0 L) base

  place_at : (base : List Sides) (k d : ℕ) → k < length base → get_or (places base) k d ≡ find (get_or base k none).0 L
  unfolding places
  place_at [] k d lt = absurd (omega (arith, lt))
  place_at (r ∷ base) zero d lt = refl
  place_at (r ∷ base) (suc k) d lt = place_at base k d (omega (arith, lt))

  within : (base : List Sides) → All (λ r. IsPseudo w cl r.0) base → (q : ℕ) → list_any (eqb q) (places base) ≡ true → q < length L
  unfolding places
  within base all q h =
      let c = Contains-from_any eqb-true q (places base) h in
      let lt : c.0 < length base = omega (arith, c.1, length-map base (λ r. find r.0 L)) in
      let b = breaks_some (get_or base c.0 none).0 (all c.0 none lt) in
      omega (arith, b.below, place_at base c.0 q lt, c.2)

  pub shortest : (base : List Sides) → All (λ r. IsPseudo w cl r.0) base → AllPairs (λ a b. a.0 ≢ b.0) base → length base ≤ length L
  unfolding places
  shortest base all differ =
      let len = length-map base (λ r. find r.0 L) in
      let distinct = IsDistinct-from_AllPairs Decides-eqb (places base) (λ i j d ij jlt.
      let jb : j < length base = omega (arith, jlt, len) in
      let ib : i < length base = omega (arith, ij, jb) in
      let ne = apart_places (get_or base i none).0 (get_or base j none).0 (all i none ib) (all j none jb) (differ i j none ij jb) in
      λ e. ne (sym (place_at base i d ib) ∙ (e ∙ place_at base j d jb))) in
      let le = length-le_from_distinct_below (places base) (length L) distinct (within base all) in
      omega (arith, le, len)
