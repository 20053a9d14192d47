-- The names of a sample are apart: they begin with different letters, or have different numbers.
use Rattle.std.proofs.Common.{◌≡◌, ℕ, zero, suc, ◌<◌, ◌≤◌, Bool, true, false, List, [], ◌∷◌, ◌++◌, map, Option, Some, None, refl, sym, ap, ◌∙◌, arith}
use Rattle.std.specs.Prelude.{◌||◌, ◌==◌, nat_lt, codes, slice_get, position}
use Rattle.std.specs.Option.{is_some}
use Rattle.std.specs.List.{range_with_len}
use Rattle.std.specs.Str.{bytes_eq}
use Rattle.std.specs.Fmt.{decimal}
use Rattle.std.proofs.lemmas.Bool.{false≢true, eq-eqb}
use Rattle.std.proofs.lemmas.Fmt.{decimal_injective}
use Rattle.std.proofs.lemmas.Option.{same_Some}
use Rattle.kaba_base.proofs.Texts.{bytes_exact, bytes_of}
use Rattle.java_core.proofs.Positions.{position-passes, passes-position}
use Rattle.name_rules.specs.Outline.{type_named, is_known, is_type_name}
use Rattle.kaba_work.specs.Sample.{class_name, variable_name}
use Rattle.kaba_work.proofs.Places.{is_row, is_last, StandsAt, stands, row_at}

-- the first that passes, where only one does
pub position_is : {A : Type 0} (p : A → Bool) (xs : List A) (i : ℕ) (x : A) → slice_get xs i ≡ Some x → p x ≡ true
    → ((j : ℕ) (y : A) → slice_get xs j ≡ Some y → p y ≡ true → j ≡ i) → position p xs ≡ Some i
position_is p xs i x e h only =
    let z = passes-position p xs i x e h in
    let y = position-passes p xs z.0 z.1 in
    z.1 ∙ ap Some (only z.0 y.0 y.1 y.2)

pub position_none : {A : Type 0} (p : A → Bool) (xs : List A) → ((j : ℕ) (y : A) → slice_get xs j ≡ Some y → p y ≡ true → ⊥) → position p xs ≡ None
position_none p xs none = go (position p xs) refl
  where
    go : (o : Option ℕ) → position p xs ≡ o → o ≡ None
    go None e = refl
    go (Some j) e = absurd (let y = position-passes p xs j e in none j y.0 y.1 y.2)

numbers_same : (i j : ℕ) → i < 100 → j < 100 → decimal i ≡ decimal j → i ≡ j
numbers_same i j h k e = decimal_injective i j (omega (arith, h)) (omega (arith, k)) e

pub class_same : (i j : ℕ) → i < 100 → j < 100 → class_name i ≡ class_name j → i ≡ j
class_same i j h k e = numbers_same i j h k (let d : decimal i ≡ decimal j = cc in d)

pub variable_same : (i j : ℕ) → i < 100 → j < 100 → variable_name i ≡ variable_name j → i ≡ j
variable_same i j h k e = numbers_same i j h k (let d : decimal i ≡ decimal j = cc in d)

-- the names of the types of a sample
abbrev pub names : ℕ → List (List ℕ)
names n = codes "Object" ∷ map class_name (range_with_len 0 n) ++ codes "Main" ∷ []

pub class_found : (n i : ℕ) → n ≤ 100 → i < n → type_named (names n) (class_name i) ≡ Some (suc i)
class_found n i most h =
    position_is (λ m. bytes_eq m (class_name i)) (names n) (suc i) (class_name i) (row_at class_name (codes "Main") n i h)
    (bytes_of (class_name i) (class_name i) refl) only
  where
    only : (j : ℕ) (y : List ℕ) → slice_get (names n) j ≡ Some y → bytes_eq y (class_name i) ≡ true → j ≡ suc i
    only zero y e k = absurd (false≢true (let s : codes "Object" ≡ y = same_Some (codes "Object") y e in ap (λ z. bytes_eq z (class_name i)) s ∙ k))
    only (suc j) y e k = at (stands class_name (codes "Main") n j y e)
      where
        at : StandsAt class_name (codes "Main") n j y → suc j ≡ suc i
        at (is_row lt s) = ap suc (class_same j i (omega (arith, lt, most)) (omega (arith, h, most)) (sym s ∙ bytes_exact y (class_name i) k))
        at (is_last l s) = absurd (false≢true (ap (λ z. bytes_eq z (class_name i)) (sym s) ∙ k))

-- the character that a name begins with
abbrev pub first : List ℕ → ℕ
first [] = 0
first (c ∷ cs) = c

-- no type has a name with a small letter in front
pub small_unnamed : (n : ℕ) (x : List ℕ) → nat_lt 96 (first x) ≡ true → type_named (names n) x ≡ None
small_unnamed n x small = position_none (λ m. bytes_eq m x) (names n) none
  where
    differs : (y : List ℕ) → nat_lt 96 (first y) ≡ false → bytes_eq y x ≡ true → ⊥
    differs y large e = false≢true (sym large ∙ ap (λ z. nat_lt 96 (first z)) (bytes_exact y x e) ∙ small)

    none : (j : ℕ) (y : List ℕ) → slice_get (names n) j ≡ Some y → bytes_eq y x ≡ true → ⊥
    none zero y e k = let s : codes "Object" ≡ y = same_Some (codes "Object") y e in differs y (ap (λ z. nat_lt 96 (first z)) (sym s)) k
    none (suc j) y e k = at (stands class_name (codes "Main") n j y e)
      where
        at : StandsAt class_name (codes "Main") n j y → ⊥
        at (is_row lt s) = differs y (ap (λ z. nat_lt 96 (first z)) s) k
        at (is_last l s) = differs y (ap (λ z. nat_lt 96 (first z)) s) k

pub small_free : (n : ℕ) (x : List ℕ) → nat_lt 96 (first x) ≡ true → is_known x ≡ false → is_type_name (names n) x ≡ false
small_free n x small known = ap (λ o. is_some o || is_known x) (small_unnamed n x small) ∙ known

-- names that begin with different letters differ
pub letters_differ : (x y : List ℕ) → (first x == first y) ≡ false → x ≡ y → ⊥
letters_differ x y d e = false≢true (sym d ∙ eq-eqb (first x) (first y) (ap first e))
