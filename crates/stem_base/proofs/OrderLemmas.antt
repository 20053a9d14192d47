-- The lectically next set that is closed or pseudo-closed.
use Rattle.std.proofs.Common.{◌≡◌, ◌≢◌, ◌⊎◌, inl, inr, ⊎_elim, ℕ, suc, zero, ◌<◌, ◌≤◌, Bool, true, false, List, [], ◌∷◌, length, get_or, refl, sym, ap, ◌∙◌, subst, arith}
use Rattle.std.proofs.lemmas.Bool.{cases_Bool, false≢true, cases_lt}
use Rattle.kaba_bits.specs.Sets.{bit, IsSubset}
use Rattle.kaba_bits.proofs.SetLemmas.{bit-below, size-subset}
use Rattle.stem_base.specs.Base.{Sides, Respects, IsClosedUnder, IsPseudo}
use Rattle.stem_base.specs.Lectic.{Precedes, IsUpTo, IsKeptSet, AreUpTo, HasStart, IsTry, AddsNoneBelow, FailsAt, FailFrom, IsStepTo}
use Rattle.stem_base.proofs.Pseudo.{same_or_less, inner}

-- ---- the order
more : (x : Bool) (A B : List Bool) → Precedes A B → Precedes (x ∷ A) (x ∷ B)
more x A B b = record {
  at = suc b.at;
  below = λ j lt. elim j as (λ j. j < suc b.at → bit (x ∷ A) j ≡ bit (x ∷ B) j) [ zero ↦ λ l. refl | suc k ↦ λ l. b.below k (omega (arith, l)) ] lt;
  lacks = b.lacks;
  has = b.has;
}

here : (A B : List Bool) → Precedes (false ∷ A) (true ∷ B)
here A B = record { at = 0; below = λ j lt. absurd (omega (arith, lt)); lacks = refl; has = refl }

again : (x : Bool) (A B : List Bool) → (A ≡ B) ⊎ (Precedes A B ⊎ Precedes B A) → ((x ∷ A) ≡ (x ∷ B)) ⊎ (Precedes (x ∷ A) (x ∷ B) ⊎ Precedes (x ∷ B) (x ∷ A))
again x A B (inl e) = inl (ap (λ X. x ∷ X) e)
again x A B (inr (inl b)) = inr (inl (more x A B b))
again x A B (inr (inr b)) = inr (inr (more x B A b))

pub three : (A B : List Bool) → length A ≡ length B → (A ≡ B) ⊎ (Precedes A B ⊎ Precedes B A)
three [] [] l = inl refl
three [] (y ∷ B) l = absurd (omega (arith, l))
three (x ∷ A) [] l = absurd (omega (arith, l))
three (false ∷ A) (true ∷ B) l = inr (inl (here A B))
three (true ∷ A) (false ∷ B) l = inr (inr (here B A))
three (true ∷ A) (true ∷ B) l = again true A B (three A B (omega (arith, l)))
three (false ∷ A) (false ∷ B) l = again false A B (three A B (omega (arith, l)))

pub never_both : (A B : List Bool) → Precedes A B → Precedes B A → ⊥
never_both A B a b = ⊎_elim
    (λ lt. false≢true (sym a.lacks ∙ (sym (b.below a.at lt) ∙ a.has)))
    (λ ge. ⊎_elim
    (λ lt. false≢true (sym b.lacks ∙ (sym (a.below b.at lt) ∙ b.has)))
    (λ ge2. let e : b.at ≡ a.at = omega (arith, ge, ge2) in false≢true (sym a.lacks ∙ subst (λ k. bit A k ≡ true) e b.has))
    (cases_lt b.at a.at))
    (cases_lt a.at b.at)

pub apart_from : (A Q Y : List Bool) → IsUpTo Q A → Precedes A Y → Q ≢ Y
apart_from A Q Y (inl e) b f = false≢true (sym b.lacks ∙ subst (λ (X : List Bool). bit X b.at ≡ true) (sym f ∙ e) b.has)
apart_from A Q Y (inr a) b f = never_both Q A a (subst (λ (X : List Bool). Precedes A X) (sym f) b)

-- a subset comes first
pub subset_first : (A B : List Bool) → length A ≡ length B → IsSubset A B → IsUpTo A B
subset_first A B l s = ⊎_elim (λ e. inl e) (λ o. ⊎_elim (λ b. inr b) (λ b. absurd (false≢true (sym b.lacks ∙ s b.at b.has))) o) (three A B l)

module _ (w : ℕ) (cl : List Bool → List Bool)
    (wide : (X : List Bool) → length X ≡ w → length (cl X) ≡ w)
    (holds : (X : List Bool) → length X ≡ w → IsSubset X (cl X))
    (grows : (X Y : List Bool) → IsSubset X Y → IsSubset (cl X) (cl Y)) where
  pub pseudo_kept : (P : List Bool) → IsPseudo w cl P → IsKeptSet w cl P
  pseudo_kept P p = record { len = p.0; stems = λ Q q sub lt. inner w cl wide holds grows P Q p q sub lt }

  module _ (A : List Bool) (lenA : length A ≡ w) (base : List Sides) (up : AreUpTo w cl A base) where
    -- a kept set after A is closed under the base
    kept_closed : (Y : List Bool) → IsKeptSet w cl Y → Precedes A Y → IsClosedUnder base Y
    kept_closed Y y after k d lt sub =
        let r = get_or base k d in
        let e = up.each k d lt in
        subst (λ (Q : List Bool). IsSubset Q Y) (sym e.1)
        (⊎_elim (λ same. absurd (apart_from A r.0 Y e.2 after same)) (λ less. y.stems r.0 e.0 sub less) (same_or_less r.0 Y (e.0.0 ∙ sym y.len) sub))

    start_of : (Y : List Bool) (b : Precedes A Y) → HasStart A b.at Y
    start_of Y b = record { below = λ k lt h. sym (b.below k lt) ∙ h; has = b.has }

    -- the try at the place where a kept set differs does not fail
    pub not_failed : (Y : List Bool) → IsKeptSet w cl Y → (b : Precedes A Y) → FailsAt w A base b.at → ⊥
    not_failed Y y b f =
        let k = f Y y.len (start_of Y b) (kept_closed Y y b) in false≢true (sym k.3 ∙ (b.below k.0 k.1 ∙ k.2))

    module _ (i : ℕ) (S : List Bool) (t : IsTry w A base i S) (pass : AddsNoneBelow A i S) (notA : bit A i ≡ false)
        (none : FailFrom w A base (suc i)) where
      pub comes_after : Precedes A S
      comes_after = record {
        at = i;
        below = λ j lt. ⊎_elim (λ a. a ∙ sym (t.starts.below j lt a))
            (λ a. ⊎_elim (λ s. absurd (false≢true (sym a ∙ pass j lt s))) (λ s. a ∙ sym s) (cases_Bool (bit S j)))
            (cases_Bool (bit A j));
        lacks = notA;
        has = t.starts.has;
      }

      -- no kept set differs from A only above i
      not_above : (Y : List Bool) → IsKeptSet w cl Y → (b : Precedes A Y) → b.at ≤ i
      not_above Y y b = ⊎_elim
          (λ lt. absurd (not_failed Y y b (none b.at (omega (arith, lt)) (omega (arith, bit-below Y b.at b.has, y.len)) b.lacks)))
          (λ ge. ge)
          (cases_lt i b.at)

      -- where it differs at i it holds S
      pub holds_try : (Y : List Bool) → IsKeptSet w cl Y → (b : Precedes A Y) → b.at ≡ i → IsSubset S Y
      holds_try Y y b e = t.least Y y.len (subst (λ k. HasStart A k Y) e (start_of Y b)) (kept_closed Y y b)

      pub next_kept : IsKeptSet w cl S
      next_kept = record {
        len = t.len;
        stems = λ Q q sub lt.
            let in_base : IsUpTo Q A → IsSubset (cl Q) S = λ u.
            let c = up.complete Q q u in
            let d = t.closed c.0 (Q, cl Q) c.1 in
            let e : Respects S (Q, cl Q) = subst (λ (r : Sides). Respects S r) c.2 d in e sub in
            ⊎_elim (λ e. in_base (inl e))
            (λ o. ⊎_elim (λ b. in_base (inr b))
            (λ b.
            let k = pseudo_kept Q q in
            ⊎_elim
            (λ less. absurd (false≢true (sym b.lacks ∙ pass b.at less (sub b.at b.has))))
            (λ ge. let e : b.at ≡ i = omega (arith, ge, not_above Q k b) in absurd (
            let le = size-subset S Q (holds_try Q k b e) in omega (arith, le, lt)))
            (cases_lt b.at i))
            o)
            (three Q A (q.0 ∙ sym lenA));
      }

      -- and none comes between
      pub next_least : (Y : List Bool) → IsKeptSet w cl Y → Precedes A Y → IsUpTo S Y
      unfolding comes_after
      next_least Y y b = ⊎_elim
          (λ lt. inr (record {
            at = b.at;
            below = λ j l. sym (comes_after.below j (omega (arith, l, lt))) ∙ b.below j l;
            lacks = sym (comes_after.below b.at lt) ∙ b.lacks;
            has = b.has;
          }))
          (λ ge. subset_first S Y (t.len ∙ sym y.len) (holds_try Y y b (omega (arith, ge, not_above Y y b))))
          (cases_lt b.at i)

    -- where all fail, no kept set comes after
    pub none_after : FailFrom w A base 0 → (Y : List Bool) → IsKeptSet w cl Y → Precedes A Y → ⊥
    none_after none Y y b = not_failed Y y b (none b.at (omega arith) (omega (arith, bit-below Y b.at b.has, y.len)) b.lacks)

    pub next_before : (S : List Bool) → IsStepTo w A base S → Precedes A S
    next_before S n = comes_after n.at S n.made n.pass n.lacks n.none

    pub next_is_kept : (S : List Bool) → IsStepTo w A base S → IsKeptSet w cl S
    next_is_kept S n = next_kept n.at S n.made n.pass n.lacks n.none

    pub next_is_least : (S : List Bool) → IsStepTo w A base S → (Y : List Bool) → IsKeptSet w cl Y → Precedes A Y → IsUpTo S Y
    next_is_least S n = next_least n.at S n.made n.pass n.lacks n.none
