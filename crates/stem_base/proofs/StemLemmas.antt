-- What the steps of the loops come to.
use Rattle.std.proofs.Common.{◌≡◌, ⊎_elim, ℕ, ◌-◌, ◌<◌, Bool, true, false, ◌&&◌, List, [], ◌∷◌, ◌++◌, length, get_or, drop, All, refl, sym, ap, ◌∙◌, subst, arith}
use Rattle.std.proofs.lemmas.Bool.{cases_Bool}
use Rattle.std.proofs.lemmas.List.{length-map, get_or-map, map-append, drop_all}
use Rattle.kaba_bits.specs.Sets.{bit, IsSubset}
use Rattle.kaba_bits.proofs.SetLemmas.{same_bits}
use Rattle.stem_base.specs.declared.implications.Implication.{Implication}
use Rattle.stem_base.specs.Base.{Sides, is_subset, in_both, all_below, common, sides_of, all_sides}
use Rattle.stem_base.specs.Lectic.{IsKeptSet, AreUpTo, FailFrom, IsStepTo}
use Rattle.stem_base.specs.Found.{narrowed, AreBefore, AreNoted, AreStemsFound, power_of_two, lectic_rank}
use Rattle.stem_base.proofs.FoundLemmas.{noted_push, found_more, found_all, after_is, then_kept, then_before, lectic_rank-before, lectic_rank-lt}
use Rattle.stem_base.specs.Saturate.{IsWide}
use Rattle.stem_base.proofs.SetLemmas.{bit-in_both, is_subset_from, subset_is, length-in_both, length-all_below, bit-all_below}
use Rattle.stem_base.proofs.TableLemmas.{common_wide}

pub narrowed_has : (R P C new : List Bool) → IsSubset P R → length new ≡ length C → ((i : ℕ) → bit new i ≡ (bit C i && bit R i)) → new ≡ narrowed R P C
narrowed_has R P C new s len bits =
    same_bits new (in_both C R) (len ∙ sym (length-in_both C R)) (λ i lt. bits i ∙ sym (bit-in_both C R i)) ∙ sym (rw (is_subset_from P R s, narrowed) refl)

pub narrowed_lacks : (R P C : List Bool) → (IsSubset P R → ⊥) → C ≡ narrowed R P C
narrowed_lacks R P C lacks = ⊎_elim (λ t. absurd (lacks (subset_is P R t))) (λ (f : is_subset P R ≡ false). sym (rw (f, narrowed) refl))
    (cases_Bool (is_subset P R))

pub all_below_is : (w : ℕ) (new : List Bool) → length new ≡ w → ((i : ℕ) → i < w → bit new i ≡ true) → new ≡ all_below w
all_below_is w new len bits = same_bits new (all_below w) (len ∙ sym (length-all_below w)) (λ i lt. bits i (omega (arith, lt, len))
    ∙ sym (bit-all_below w i (omega (arith, lt, len))))

pub common_none : (T : List (List Bool)) (w : ℕ) (P new : List Bool) → length new ≡ w → ((i : ℕ) → i < w → bit new i ≡ true)
    → new ≡ common (drop (length T) T) w P
common_none T w P new len bits = all_below_is w new len bits ∙ sym (ap (λ (U : List (List Bool)). common U w P) (drop_all (length T) T (omega arith)))

-- each implication of the list has the width
pub wide_sides : (T : List (List Bool)) (w : ℕ) (A : List Bool) (xs : List Implication) → AreUpTo w (common T w) A (all_sides xs) → All (IsWide w) xs
wide_sides T w A xs up k d lt =
    let e = up.each k (sides_of d) (omega (arith, lt, length-map xs sides_of)) in
    let is : get_or (all_sides xs) k (sides_of d) ≡ sides_of (get_or xs k d) = get_or-map sides_of xs k d (sides_of d) lt in
    let left = subst (λ (r : Sides). length r.0 ≡ w) is e.0.0 in
    let right = subst (λ (r : Sides). length r.1 ≡ w) is (ap length e.1 ∙ common_wide T w _) in
    (left, right)

pub all_sides-push : (xs : List Implication) (x : Implication) → all_sides (xs ++ x ∷ []) ≡ all_sides xs ++ sides_of x ∷ []
all_sides-push xs x = map-append sides_of xs (x ∷ [])

abbrev twin : List Bool → List Bool → Sides
twin P Q = (P, Q)

abbrev stem : List (List Bool) → ℕ → List Bool → Sides
stem T w A = (A, common T w A)

pub noted_pushed : (T : List (List Bool)) (w : ℕ) (A : List Bool) (xs ys : List Implication) (x : Implication) → IsKeptSet w (common T w) A
    → AreBefore w (common T w) A (all_sides xs) → (IsSubset (common T w A) A → ⊥) → ys ≡ xs ++ x ∷ [] → x.left ≡ A → x.right ≡ common T w A
    → AreNoted w (common T w) A (all_sides ys)
noted_pushed T w A xs ys x kept before more e l r =
    let pair : sides_of x ≡ stem T w A = ap (λ (X : List Bool). twin X x.right) l ∙ ap (λ (X : List Bool). twin A X) r in
    let is : all_sides ys ≡ all_sides xs ++ stem T w A ∷ [] = ap all_sides e ∙ (all_sides-push xs x ∙ ap (λ (p : Sides). all_sides xs ++ p ∷ []) pair) in
    subst (AreNoted w (common T w) A) (sym is) (noted_push T w A kept (all_sides xs) before more)

-- the facts of a step of the loop, at the width
pub record IsStep (T : List (List Bool)) (w : ℕ) (A : List Bool) (xs : List Implication) : Type 0 where
  pub kept : IsKeptSet w (common T w) A
  pub noted : AreNoted w (common T w) A (all_sides xs)

module _ (T : List (List Bool)) (w : ℕ) (A : List Bool) (xs : List Implication) (s : IsStep T w A xs) where
  pub step_sides : All (IsWide (length A)) xs
  step_sides = subst (λ n. All (IsWide n) xs) (sym s.kept.len) (wide_sides T w A xs s.noted.upto)

  pub step_more : (bound : ℕ) → bound < length xs → AreStemsFound w (common T w) bound (all_sides xs)
  step_more bound lt = found_more T w A s.kept (all_sides xs) bound s.noted (omega (arith, lt, length-map xs sides_of))

  pub step_all : (bound : ℕ) → FailFrom (length A) A (all_sides xs) 0 → AreStemsFound w (common T w) bound (all_sides xs)
  step_all bound none = found_all T w A s.kept (all_sides xs) bound s.noted (subst (λ n. FailFrom n A (all_sides xs) 0) s.kept.len none)

  module _ (S : List Bool) (given : IsStepTo (length A) A (all_sides xs) S) where
    next : IsStepTo w A (all_sides xs) S
    next = subst (λ n. IsStepTo n A (all_sides xs) S) s.kept.len given

    pub step_kept : IsKeptSet w (common T w) S
    step_kept = then_kept T w A s.kept (all_sides xs) S s.noted next

    pub step_before : AreBefore w (common T w) S (all_sides xs)
    step_before = then_before T w A s.kept (all_sides xs) S s.noted next

    pub step_falls : power_of_two w - lectic_rank S < power_of_two w - lectic_rank A
    step_falls =
        let up = lectic_rank-before A S (s.kept.len ∙ sym step_kept.len) (after_is T w A s.kept (all_sides xs) S s.noted next) in
        let below = lectic_rank-lt S in
        let n : power_of_two (length S) ≡ power_of_two w = ap power_of_two step_kept.len in
        omega (arith, up, below, n)
