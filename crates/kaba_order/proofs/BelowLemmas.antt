-- The nodes at or below some that were joined.
use Rattle.std.proofs.Common.{◌≡◌, ⊎_elim, ℕ, ◌==◌, Bool, true, false, ◌&&◌, ◌||◌, not, List, [], ◌∷◌, length, refl, sym, ◌∙◌}
use Rattle.std.proofs.lemmas.Bool.{and_parts, and_from, or_cases, or_right, eq-eqb}
use Rattle.kaba_base.specs.declared.NodeId.{NodeId}
use Rattle.kaba_base.proofs.TestLemmas.{same_truth}
use Rattle.kaba_bits.specs.Sets.{bit, row}
use Rattle.kaba_order.specs.Orders.{Ordered, is_le, is_among, is_below_some, is_above_some, stays, IsMerged, IsUnder}
use Rattle.kaba_order.specs.Formers.{AreBelow}
use Rattle.kaba_order.proofs.ListLemmas.{has_any_one}
use Rattle.kaba_order.proofs.MergeSteps.{has_any_among, any_has_among}
use Rattle.kaba_order.proofs.MergeLemmas.{has_any_some}

-- those at or below the one that a list became are those at or below the list that stay
pub below_merged : (old new : Ordered) (set : List NodeId) (m : ℕ) (low left : List Bool) → length new.live ≡ length old.live → IsMerged old set m new
    → is_among set m ≡ true → is_le old m m ≡ true → AreBelow old set low → length left ≡ length low
    → ((a : ℕ) → bit left a ≡ (bit low a && stays set m a)) → AreBelow new set left
below_merged old new set m low left count pairs has self is len bits = record {
  width = len ∙ (is.width ∙ sym count);
  exact = λ a.
      let low_a = is_below_some old set a in
      let pair : ℕ → Bool = λ b. is_le old a b || (low_a && is_above_some old set b) in
      bits a
      ∙ rw (is.exact a) (same_truth (low_a && stays set m a) (is_below_some new set a)
      (λ h.
      let x = and_parts low_a (stays set m a) h in
      let here = or_right (is_le old a m) (low_a && is_above_some old set m)
      (and_from low_a (is_above_some old set m) x.0 (any_has_among old.le set m m has self)) in
      has_any_among (row new.le a) set m has
      (pairs a m ∙ and_from (pair m && stays set m a) (stays set m m) (and_from (pair m) (stays set m a) here x.1)
      (or_right (not (is_among set m)) (m == m) (eq-eqb m m refl))))
      (λ h.
      let s = has_any_some (row new.le a) set h in
      let x = and_parts (pair s.0) (stays set m a) (and_parts (pair s.0 && stays set m a) (stays set m s.0) (sym (pairs a s.0) ∙ s.2)).0 in
      and_from low_a (stays set m a)
      (⊎_elim (λ k. has_any_among (row old.le a) set s.0 s.1 k) (λ k. (and_parts low_a (is_above_some old set s.0) k).0)
      (or_cases (is_le old a s.0) (low_a && is_above_some old set s.0) x.0)) x.1));
}

-- those at or below a node stay so where it comes under another
pub below_under : (old new : Ordered) (n : NodeId) (p : ℕ) (low : List Bool) → length new.live ≡ length old.live → IsUnder old n.0 p new
    → AreBelow old (n ∷ []) low → AreBelow new (n ∷ []) low
below_under old new n p low count under is = record {
  width = is.width ∙ sym count;
  exact = λ a.
      is.exact a
      ∙ (has_any_one (row old.le a) n
      ∙ (sym (under a n.0 ∙ absorbs (is_le old a n.0) (is_le old p n.0)) ∙ sym (has_any_one (row new.le a) n)));
}
  where
    absorbs : (x y : Bool) → (x || (x && y)) ≡ x
    absorbs true y = refl
    absorbs false y = refl
