-- A list that the test tells is the base; and the base of the worked table, by computing.
use Rattle.std.proofs.Common.{◌≡◌, ⊎_elim, ℕ, suc, zero, ◌<◌, Bool, true, false, ◌&&◌, ◌||◌, not, nat_lt, List, [], ◌∷◌, length, Contains, refl, sym, ap, ◌∙◌, subst, arith}
use Rattle.std.proofs.lemmas.Bool.{cases_Bool, false≢true, and_parts, or_cases, or_left, or_right, ltb-true, lt-ltb}
use Rattle.std.specs.List.{AllByRecursion}
use Rattle.std.proofs.lemmas.List.Elements.{All-contains, All-from_recursion}
use Rattle.kaba_bits.specs.Sets.{size, IsSubset}
use Rattle.kaba_bits.proofs.SetLemmas.{subset-both}
use Rattle.stem_base.specs.Base.{Sides, is_subset, common, IsPseudo}
use Rattle.stem_base.proofs.Worked.{same_set, is_listed, holds_lesser, is_stem_by, same_truth, each_set, tells_base, table, table_base}
use Rattle.stem_base.proofs.SetLemmas.{subset_is, is_subset_from}
use Rattle.stem_base.proofs.TableLemmas.{common_wide, common_holds, common_grows}
use Rattle.stem_base.proofs.Pseudo.{from_said, inner}

told_each : (w : ℕ) (p : List Bool → Bool) → each_set w p ≡ true → (X : List Bool) → length X ≡ w → p X ≡ true
told_each zero p h [] l = h
told_each zero p h (x ∷ X) l = absurd (omega (arith, l))
told_each (suc w) p h [] l = absurd (omega (arith, l))
told_each (suc w) p h (false ∷ X) l = told_each w (λ X. p (false ∷ X)) (and_parts (each_set w (λ X. p (false ∷ X))) _ h).0 X (omega (arith, l))
told_each (suc w) p h (true ∷ X) l = told_each w (λ X. p (true ∷ X)) (and_parts (each_set w (λ X. p (false ∷ X))) _ h).1 X (omega (arith, l))

same_truth_is : (a b : Bool) → same_truth a b ≡ true → a ≡ b
same_truth_is true true h = refl
same_truth_is true false h = sym h
same_truth_is false true h = h
same_truth_is false false h = refl

same_set_is : (a b : List Bool) → length a ≡ length b → same_set a b ≡ true → a ≡ b
same_set_is a b l h = let p = and_parts (is_subset a b) (is_subset b a) h in subset-both a b l (subset_is a b p.0) (subset_is b a p.1)

same_set_from : (a : List Bool) → same_set a a ≡ true
same_set_from a = rw (is_subset_from a a (λ i h. h), same_set) refl

-- the left sides have the width, and the right sides are their closures
abbrev pub Fits : List (List Bool) → ℕ → Sides → Type 0
Fits T w r = (length r.0 ≡ w) × (r.1 ≡ common T w r.0)

guard : (a b c : Bool) → (a ≡ true → b ≡ true) → c ≡ true → ((not a || b) && c) ≡ true
guard false b c f h = h
guard true true c f h = h
guard true false c f h = absurd (false≢true (f refl))

both_true : (x y : Bool) → x ≡ true → y ≡ true → (x && y) ≡ true
both_true true y a b = b
both_true false y a b = a

module _ (T : List (List Bool)) (w : ℕ) where
  listed_has : (base : List Sides) (P : List Bool) → AllByRecursion (Fits T w) base → length P ≡ w → is_listed base P ≡ true → Contains base (P, common T w P)
  listed_has [] P f l h = absurd (false≢true h)
  listed_has (r ∷ base) P f l h = ⊎_elim
      (λ here. let e = same_set_is r.0 P (f.0.0 ∙ sym l) here in
      (0, omega arith, subst (λ (Q : List Bool). r ≡ (Q, common T w Q)) e (ap (λ (Q : List Bool). (r.0, Q)) f.0.1)))
      (λ more. let c = listed_has base P f.1 l more in (suc c.0, omega (arith, c.1), c.2))
      (or_cases (same_set r.0 P) (is_listed base P) h)

  test_of : (r : Sides) (base : List Sides) (P : List Bool) → holds_lesser (r ∷ base) P ≡ true → IsSubset r.0 P → size r.0 < size P → IsSubset r.1 P
  test_of r base P h sub lt =
      let a = (and_parts (not (is_subset r.0 P && nat_lt (size r.0) (size P)) || is_subset r.1 P) (holds_lesser base P) h).0 in
      let b : (is_subset r.0 P && nat_lt (size r.0) (size P)) ≡ true = rw (is_subset_from r.0 P sub) (lt-ltb (size r.0) (size P) lt) in
      ⊎_elim (λ n. absurd (false≢true (sym (ap not b) ∙ n))) (λ t. subset_is r.1 P t) (or_cases (not (is_subset r.0 P && nat_lt (size r.0) (size P)))
      (is_subset r.1 P) a)

  -- a smaller set that is listed has its closure within P
  lesser_has : (base : List Sides) (P Q : List Bool) → AllByRecursion (Fits T w) base → length Q ≡ w → holds_lesser base P ≡ true → is_listed base Q ≡ true
      → IsSubset Q P → size Q < size P → IsSubset (common T w Q) P
  lesser_has [] P Q f l h g sub lt = absurd (false≢true g)
  lesser_has (r ∷ base) P Q f l h g sub lt = ⊎_elim
      (λ here. let e = same_set_is r.0 Q (f.0.0 ∙ sym l) here in
      subst (λ (X : List Bool). IsSubset X P) (f.0.1 ∙ ap (common T w) e)
      (test_of r base P h (subst (λ (X : List Bool). IsSubset X P) (sym e) sub) (subst (λ (X : List Bool). size X < size P) (sym e) lt)))
      (λ more. lesser_has base P Q f.1 l (and_parts _ (holds_lesser base P) h).1 more sub lt)
      (or_cases (same_set r.0 Q) (is_listed base Q) g)

  -- and the test holds where the closures of the smaller listed sets are within P
  lesser_from : (base : List Sides) (P : List Bool) → AllByRecursion (Fits T w) base
      → ((r : Sides) → Contains base r → IsSubset r.0 P → size r.0 < size P → IsSubset r.1 P) → holds_lesser base P ≡ true
  lesser_from [] P f each = refl
  lesser_from (r ∷ base) P f each =
      let rest = lesser_from base P f.1 (λ x c. each x (suc c.0, omega (arith, c.1), c.2)) in
      guard (is_subset r.0 P && nat_lt (size r.0) (size P)) (is_subset r.1 P) (holds_lesser base P)
      (λ t. let b = and_parts (is_subset r.0 P) (nat_lt (size r.0) (size P)) t in
      is_subset_from r.1 P (each r (0, omega arith, refl) (subset_is r.0 P b.0) (ltb-true (size r.0) (size P) b.1)))
      rest

  module _ (base : List Sides) (fits : AllByRecursion (Fits T w) base) (told : tells_base T w base ≡ true) where
    said : (P : List Bool) → length P ≡ w → is_listed base P ≡ is_stem_by T w base P
    said P l = same_truth_is (is_listed base P) (is_stem_by T w base P) (told_each w (λ P. same_truth (is_listed base P) (is_stem_by T w base P)) told P l)

    fit_of : (r : Sides) → Contains base r → Fits T w r
    fit_of r c = All-contains (Fits T w) base r (All-from_recursion (Fits T w) base fits) c

    listed_of : (xs : List Sides) (r : Sides) → Contains xs r → is_listed xs r.0 ≡ true
    listed_of [] r c = absurd (omega (arith, c.1))
    listed_of (x ∷ xs) r (zero, lt, e) = subst (λ (y : Sides). is_listed (x ∷ xs) y.0 ≡ true) e (or_left (same_set x.0 x.0) (is_listed xs x.0)
        (same_set_from x.0))
    listed_of (x ∷ xs) r (suc k, lt, e) = or_right (same_set x.0 r.0) (is_listed xs r.0) (listed_of xs r (k, omega (arith, lt), e))

    both : (n : ℕ) (P : List Bool) → size P < n → length P ≡ w → (is_listed base P ≡ true → IsPseudo w (common T w) P) × (IsPseudo w (common T w) P
        → is_listed base P ≡ true)
    both zero P lt l = absurd (omega (arith, lt))
    both (suc n) P lt l = (
      λ h.
          let t = and_parts (not (same_set P (common T w P))) (holds_lesser base P) (sym (said P l) ∙ h) in
          from_said w (common T w) (λ X len. common_wide T w X) (λ X len. common_holds T w X len) (λ X Y s. common_grows T w X Y s) P l
          (λ e. false≢true (sym (ap not (same_set_from P)) ∙ subst (λ (X : List Bool). not (same_set P X) ≡ true) (sym e) t.0))
          (λ Q q sub less. lesser_has base P Q fits q.0 t.1 ((both n Q (omega (arith, less, lt)) q.0).1 q) sub less),
      λ p.
          let holds = lesser_from base P fits (λ r c sub less.
          let f = fit_of r c in
          let q = (both n r.0 (omega (arith, less, lt)) f.0).0 (listed_of base r c) in
          subst (λ (X : List Bool). IsSubset X P) (sym f.1)
          (inner w (common T w) (λ X len. common_wide T w X) (λ X len. common_holds T w X len) (λ X Y s. common_grows T w X Y s) P r.0 p q sub less)) in
          let differs = ⊎_elim (λ t. absurd (p.1 (same_set_is P (common T w P) (l ∙ sym (common_wide T w P)) t))) (λ f. ap not f)
          (cases_Bool (same_set P (common T w P))) in
          said P l ∙ both_true (not (same_set P (common T w P))) (holds_lesser base P) differs holds,
    )

    -- the list has exactly the pseudo-closed sets on its left sides
    pub told_complete : (P : List Bool) → IsPseudo w (common T w) P → Contains base (P, common T w P)
    told_complete P p = listed_has base P fits p.0 ((both (suc (size P)) P (omega arith) p.0).1 p)

    pub told_each_stem : (r : Sides) → Contains base r → IsPseudo w (common T w) r.0
    told_each_stem r c = (both (suc (size r.0)) r.0 (omega arith) (fit_of r c).0).0 (listed_of base r c)

-- by computing
pub row_complete : (P : List Bool) → IsPseudo 5 (common table 5) P → Contains table_base (P, common table 5 P)
row_complete P p = told_complete table 5 table_base ((refl, refl), ((refl, refl), ((refl, refl), ((refl, refl), ((refl, refl), tt))))) refl P p
