-- Lists and options whose items are related, and what is first in two lists that are matched.
use Rattle.std.proofs.Common.{◌≡◌, ℕ, zero, suc, ◌<◌, ◌≤◌, List, [], ◌∷◌, ◌++◌, Option, Some, None, length, eqb, refl, sym, ap, ◌∙◌, subst, arith, ⊎_elim}
use Rattle.std.specs.Prelude.{Bool, true, false, ◌||◌, map, slice_get, position}
use Rattle.std.specs.Option.{option_map, option_and_then, option_to_list}
use Rattle.std.specs.List.{IsDistinct, AllByRecursion, list_any, flat_map}
use Rattle.std.proofs.lemmas.Bool.{or_cases, eqb-true, ne_eqb, false≢true, cases_lt}
use Rattle.std.proofs.lemmas.Map.Keys.{IsDistinct-cons}
use Rattle.std.proofs.lemmas.Map.Steps.{length-le_from_distinct_below}
use Rattle.std.proofs.lemmas.Option.{same_Some, slice_get_past}
use Rattle.java_core.specs.Classes.{first_or, first_found}
use Rattle.java_core.proofs.Positions.{position-passes, passes-position}
use Rattle.rebuild_model.specs.OnePrograms.{AreRelated, none_related, one_related, BothRelated, neither, both, HasRelated, AreMatched}

pub append_related : {A : Type 0} {R : A → A → Type 0} {xs ys zs ws : List A} → AreRelated R xs ys → AreRelated R zs ws → AreRelated R (xs ++ zs) (ys ++ ws)
append_related none_related q = q
append_related (one_related r rs) q = one_related r (append_related rs q)

-- what stands at a number within a list
slice_get_there : {A : Type 0} (xs : List A) (i : ℕ) → i < length xs → (x : A) × (slice_get xs i ≡ Some x)
slice_get_there [] i lt = absurd (omega (arith, lt))
slice_get_there (x ∷ xs) zero lt = (x, refl)
slice_get_there (x ∷ xs) (suc i) lt = slice_get_there xs i (let h : suc i < suc (length xs) = lt in omega (arith, h))

module _ {A : Type 0} {R : A → A → Type 0} where
  first_there : {o p : Option A} (x : A) → BothRelated R o p → o ≡ Some x → (y : A) × (p ≡ Some y) × R x y
  first_there x neither e = absurd (cc)
  first_there x (both {x = a} {y = y} r) e = (y, refl, subst (λ z. R z y) (same_Some a x e) r)

  second_there : {o p : Option A} (y : A) → BothRelated R o p → p ≡ Some y → (x : A) × (o ≡ Some x) × R x y
  second_there y neither e = absurd (cc)
  second_there y (both {x = x} {y = b} r) e = (x, refl, subst (λ z. R x z) (same_Some b y e) r)

  -- what is related to one that is there
  pub from_first : (o p : Option A) (x : A) → BothRelated R o p → o ≡ Some x → (y : A) × (p ≡ Some y) × R x y
  from_first o p x r e = first_there x r e

  pub from_second : (o p : Option A) (y : A) → BothRelated R o p → p ≡ Some y → (x : A) × (o ≡ Some x) × R x y
  from_second o p y r e = second_there y r e

  pub listed_related : {o p : Option A} → BothRelated R o p → AreRelated R (option_to_list o) (option_to_list p)
  listed_related neither = none_related
  listed_related (both r) = one_related r none_related

  pub get_related : {xs ys : List A} → AreRelated R xs ys → (i : ℕ) → BothRelated R (slice_get xs i) (slice_get ys i)
  get_related none_related i = neither
  get_related (one_related r rs) zero = both r
  get_related (one_related r rs) (suc i) = get_related rs i

  pub any_related : (f g : A → Bool) → ((x y : A) → R x y → f x ≡ g y) → {xs ys : List A} → AreRelated R xs ys → list_any f xs ≡ list_any g ys
  any_related f g h none_related = refl
  any_related f g h (one_related {x = x} {y = y} r rs) = λ i. h x y r i || any_related f g h rs i

  pub map_related : {B : Type 0} (f g : A → B) → ((x y : A) → R x y → f x ≡ g y) → {xs ys : List A} → AreRelated R xs ys → map f xs ≡ map g ys
  map_related f g h none_related = refl
  map_related f g h (one_related {x = x} {y = y} r rs) = λ i. h x y r i ∷ map_related f g h rs i

  module _ {B : Type 0} {S : B → B → Type 0} where
    pub then_both : (f g : A → Option B) → ((x y : A) → R x y → BothRelated S (f x) (g y)) → {o p : Option A} → BothRelated R o p
        → BothRelated S (option_and_then f o) (option_and_then g p)
    then_both f g h neither = neither
    then_both f g h (both {x = x} {y = y} r) = h x y r

    pub map_both : (f g : A → B) → ((x y : A) → R x y → S (f x) (g y)) → {o p : Option A} → BothRelated R o p
        → BothRelated S (option_map f o) (option_map g p)
    map_both f g h neither = neither
    map_both f g h (both {x = x} {y = y} r) = both (h x y r)

    pub mapped_related : (f g : A → B) → ((x y : A) → R x y → S (f x) (g y)) → {xs ys : List A} → AreRelated R xs ys
        → AreRelated S (map f xs) (map g ys)
    mapped_related f g h none_related = none_related
    mapped_related f g h (one_related {x = x} {y = y} r rs) = one_related (h x y r) (mapped_related f g h rs)

    pub flat_related : (f g : A → List B) → ((x y : A) → R x y → AreRelated S (f x) (g y)) → {xs ys : List A} → AreRelated R xs ys
        → AreRelated S (flat_map f xs) (flat_map g ys)
    flat_related f g h none_related = none_related
    flat_related f g h (one_related {x = x} {y = y} r rs) = append_related (h x y r) (flat_related f g h rs)

-- where no two items of the first list are related to one of the second, each of the second has one
module _ {A : Type 0} {R : A → A → Type 0} (xs ys : List A) (m : AreMatched R xs ys)
    (apart : (i j n : ℕ) (x y z : A) → slice_get xs i ≡ Some x → slice_get xs j ≡ Some y → slice_get ys n ≡ Some z → R x z → R y z → i ≡ j) where
  partner_from : (i : ℕ) (o : Option A) → slice_get xs i ≡ o → ℕ
  partner_from i None e = 0
  partner_from i (Some x) e = (m.each i x e).number

  abbrev partner : ℕ → ℕ
  partner i = partner_from i (slice_get xs i) refl

  -- the item that a number is the partner of
  record IsPartner (i n : ℕ) : Type 0 where
    item : A
    stands : slice_get xs i ≡ Some item
    other : A
    other_stands : slice_get ys n ≡ Some other
    related : R item other

  partner_is : (i : ℕ) → i < length xs → IsPartner i (partner i)
  unfolding partner_from
  partner_is i lt = go (slice_get xs i) refl
    where
      go : (o : Option A) (e : slice_get xs i ≡ o) → IsPartner i (partner_from i o e)
      go None e = absurd (let h = slice_get_there xs i lt in let w = sym e ∙ h.1 in cc)
      go (Some x) e = let h = m.each i x e in record { item = x; stands = e; other = h.item; other_stands = h.stands; related = h.related }

  one_partner : (i j : ℕ) → i < length xs → j < length xs → partner i ≡ partner j → i ≡ j
  one_partner i j li lj e =
      let a = partner_is i li in
      let b = partner_is j lj in
      let same : b.other ≡ a.other = same_Some b.other a.other (sym b.other_stands ∙ ap (slice_get ys) (sym e) ∙ a.other_stands) in
      apart i j (partner i) a.item b.item a.other a.stands b.stands a.other_stands a.related (subst (λ z. R b.item z) same b.related)

  partners : ℕ → List ℕ
  partners zero = []
  partners (suc n) = partner n ∷ partners n

  partners_many : (n : ℕ) → length (partners n) ≡ n
  unfolding partners
  partners_many zero = refl
  partners_many (suc n) = ap suc (partners_many n)

  others : (i n : ℕ) → n ≤ i → i < length xs → AllByRecursion (λ y. eqb (partner i) y ≡ false) (partners n)
  unfolding partners
  others i zero le lt = tt
  others i (suc n) le lt =
      (ne_eqb (partner i) (partner n) (λ e. let z = one_partner i n lt (omega (arith, le, lt)) e in omega (arith, z, le)), others i n (omega (arith, le)) lt)

  distinct : (n : ℕ) → n ≤ length xs → IsDistinct eqb (partners n)
  unfolding partners IsDistinct
  distinct zero le = tt
  distinct (suc n) le = IsDistinct-cons eqb (partner n) (partners n) (others n n (omega arith) (omega (arith, le))) (distinct n (omega (arith, le)))

  found_partner : (q n : ℕ) → list_any (eqb q) (partners n) ≡ true → n ≤ length xs → (i : ℕ) × (i < length xs) × (q ≡ partner i)
  unfolding partners
  found_partner q zero h le = absurd (false≢true h)
  found_partner q (suc n) h le = ⊎_elim
      (λ e. (n, omega (arith, le), eqb-true q (partner n) e))
      (λ e. found_partner q n e (omega (arith, le)))
      (or_cases (eqb q (partner n)) (list_any (eqb q) (partners n)) h)

  there_within : (zs : List A) (i : ℕ) (z : A) → slice_get zs i ≡ Some z → i < length zs
  there_within zs i z e = ⊎_elim (λ lt. lt) (λ past. absurd (let w = sym (slice_get_past zs i past) ∙ e in cc)) (cases_lt i (length zs))

  none_there : (q : ℕ) (zs : List ℕ) → list_any (eqb q) zs ≡ false → AllByRecursion (λ y. eqb q y ≡ false) zs
  none_there q [] h = tt
  none_there q (z ∷ zs) h = (left (eqb q z) (list_any (eqb q) zs) h, none_there q zs (right (eqb q z) (list_any (eqb q) zs) h))
    where
      left : (a b : Bool) → (a || b) ≡ false → a ≡ false
      left true b e = absurd (false≢true (sym e))
      left false b e = refl

      right : (a b : Bool) → (a || b) ≡ false → b ≡ false
      right true b e = absurd (false≢true (sym e))
      right false b e = e

  pub back_of : (n : ℕ) (z : A) → slice_get ys n ≡ Some z → HasRelated (λ x. R x z) xs
  unfolding partners
  back_of n z e = go (list_any (eqb n) (partners (length xs))) refl
    where
      below : (q : ℕ) → list_any (eqb q) (n ∷ partners (length xs)) ≡ true → q < length ys
      below q h = ⊎_elim
          (λ d. subst (λ y. y < length ys) (sym (eqb-true q n d)) (there_within ys n z e))
          (λ d.
          let i = found_partner q (length xs) d (omega arith) in
          let p = partner_is i.0 i.1 in
          subst (λ y. y < length ys) (sym i.2) (there_within ys (partner i.0) p.other p.other_stands))
          (or_cases (eqb q n) (list_any (eqb q) (partners (length xs))) h)

      go : (b : Bool) → list_any (eqb n) (partners (length xs)) ≡ b → HasRelated (λ x. R x z) xs
      go true h =
          let i = found_partner n (length xs) h (omega arith) in
          let p = partner_is i.0 i.1 in
          record {
            number = i.0;
            item = p.item;
            stands = p.stands;
            related = subst (λ y. R p.item y) (same_Some p.other z (sym p.other_stands ∙ ap (slice_get ys) (sym i.2) ∙ e)) p.related;
          }
      go false h =
          let all = length-le_from_distinct_below (n ∷ partners (length xs)) (length ys)
          (IsDistinct-cons eqb n (partners (length xs)) (none_there n (partners (length xs)) h) (distinct (length xs) (omega arith))) below in
          let many = partners_many (length xs) in
          let same = m.as_many in
          absurd (omega (arith, all, many, same))

module _ {T : ℕ → ℕ → Type 0} where
  pub first_both : {a b x y : Option ℕ} → BothRelated T a b → BothRelated T x y → BothRelated T (first_or a x) (first_or b y)
  first_both neither h = h
  first_both (both r) h = both r

  pub found_both : {R : ℕ → ℕ → Type 0} (f g : ℕ → Option ℕ) → ((x y : ℕ) → R x y → BothRelated T (f x) (g y)) → {xs ys : List ℕ} → AreRelated R xs ys
      → BothRelated T (first_found f xs) (first_found g ys)
  found_both f g h none_related = neither
  found_both f g h (one_related {x = x} {y = y} r rs) = first_both (h x y r) (found_both f g h rs)

  -- tests that agree on items that are related find related items, where one alone of the second list passes
  pub position_both : {A : Type 0} {R : A → A → Type 0} (p q : A → Bool) (xs ys : List A) → AreMatched R xs ys
      → ((i j : ℕ) (x y : A) → slice_get xs i ≡ Some x → slice_get ys j ≡ Some y → R x y → p x ≡ q y)
      → ((i j : ℕ) (x y : A) → slice_get xs i ≡ Some x → slice_get ys j ≡ Some y → R x y → T i j)
      → ((i j n : ℕ) (x y z : A) → slice_get xs i ≡ Some x → slice_get xs j ≡ Some y → slice_get ys n ≡ Some z → R x z → R y z → i ≡ j)
      → ((i j : ℕ) (x y : A) → slice_get ys i ≡ Some x → slice_get ys j ≡ Some y → q x ≡ true → q y ≡ true → i ≡ j)
      → BothRelated T (position p xs) (position q ys)
  position_both {A} {R} p q xs ys m agree pair apart once = go (position p xs) (position q ys) refl refl
    where
      go : (o r : Option ℕ) → position p xs ≡ o → position q ys ≡ r → BothRelated T o r
      go None None e d = neither
      go None (Some j) e d =
          let y = position-passes q ys j d in
          let x = back_of xs ys m apart j y.0 y.1 in
          let z = passes-position p xs x.number x.item x.stands (agree x.number j x.item y.0 x.stands y.1 x.related ∙ y.2) in absurd (let w = sym e ∙ z.1 in cc)
      go (Some i) None e d =
          let x = position-passes p xs i e in
          let y = m.each i x.0 x.1 in
          let z = passes-position q ys y.number y.item y.stands (sym (agree i y.number x.0 y.item x.1 y.stands y.related) ∙ x.2) in absurd
          (let w = sym d ∙ z.1 in cc)
      go (Some i) (Some j) e d =
          let x = position-passes p xs i e in
          let y = m.each i x.0 x.1 in
          let z = position-passes q ys j d in
          let at : y.number ≡ j = once y.number j y.item z.0 y.stands z.1 (sym (agree i y.number x.0 y.item x.1 y.stands y.related) ∙ x.2) z.2 in
          both (subst (λ n. T i n) at (pair i y.number x.0 y.item x.1 y.stands y.related))
