-- Rows that were kept give the order back.
use Rattle.std.proofs.Common.{◌≡◌, ⊎_elim, ℕ, ◌<◌, ◌&&◌, ◌||◌, Bool, true, false, List, [], ◌∷◌, length, All, refl, sym, ap, ◌∙◌, subst, arith}
use Rattle.std.proofs.lemmas.Bool.{cases_Bool, false≢true, and_parts, or_cases, or_left}
use Rattle.kaba_base.specs.declared.NodeId.{NodeId}
use Rattle.kaba_base.proofs.TestLemmas.{same_truth}
use Rattle.kaba_bits.specs.Sets.{bit, row}
use Rattle.kaba_bits.proofs.SetLemmas.{same_bits}
use Rattle.kaba_order.specs.Orders.{Ordered, is_le, is_among, has_any, is_below_some, is_above_some, stays, IsPartialOrder, IsMerged, IsUnder}
use Rattle.kaba_order.specs.Written.{written, only_if}
use Rattle.kaba_order.specs.Formers.{rows_at, AreBelow, IsFormerOf}
use Rattle.kaba_order.specs.declared.keep.Former.{Former}
use Rattle.kaba_order.proofs.ListLemmas.{has_any_one}
use Rattle.kaba_order.proofs.MergeSteps.{has_any_among}
use Rattle.kaba_order.proofs.WrittenLemmas.{written_back, All-each, All-only}

module _ (old new : Ordered) (p : IsPartialOrder old) (q : IsPartialOrder new) (count : length new.live ≡ length old.live) (set : List NodeId)
    (low : List Bool) (below : AreBelow old set low) (kept : Former) (live : kept.live ≡ old.live) (rows : kept.rows.items ≡ rows_at old.le low) where
  len : length new.le ≡ length old.le
  len = q.count ∙ (count ∙ sym p.count)

  -- where the rows without a node of the list are as they were
  pub former_of : ((a : ℕ) → is_below_some old set a ≡ false → (b : ℕ) → is_le new a b ≡ is_le old a b) → IsFormerOf old new kept
  former_of same = record {
    within = subst (All (λ (x : ℕ × List Bool). x.0 < length new.le)) (sym rows)
        (All-each (λ (x : ℕ × List Bool). x.0 < length new.le) (length old.le) (λ k. only_if (bit low k) (k, row old.le k))
        (λ k lt. All-only (λ (x : ℕ × List Bool). x.0 < length new.le) (bit low k) (k, row old.le k) (λ _. omega (arith, lt, len))));
    live = live;
    le = ap (written new.le) rows
        ∙ written_back [] new.le old.le (length old.le) (λ k. bit low k) len refl
        (λ k lt none.
        let here : k < length new.le = omega (arith, lt, len) in
        same_bits (row new.le k) (row old.le k) (q.widths k here ∙ (count ∙ sym (p.widths k lt))) (λ i _. same k (sym (below.exact k) ∙ none) i));
  }

  -- a row that changed has a node of the list
  apart : (a b : ℕ) → is_below_some old set a ≡ false → is_le old a b ≡ true → is_among set b ≡ false
  apart a b none h =
      ⊎_elim (λ t. absurd (false≢true (sym none ∙ has_any_among (row old.le a) set b t h))) (λ f. f) (cases_Bool (is_among set b))

  out : (m a b : ℕ) → is_below_some old set a ≡ false → is_le old a b ≡ true → stays set m b ≡ true
  out m a b none h = rw (apart a b none h) refl

  pub merged_former : (m : ℕ) → IsMerged old set m new → IsFormerOf old new kept
  merged_former m merged = former_of (λ a none b.
      let pair = is_le old a b || (is_below_some old set a && is_above_some old set b) in
      merged a b
      ∙ same_truth (pair && stays set m a && stays set m b) (is_le old a b)
      (λ h.
      let x = and_parts pair (stays set m a) (and_parts (pair && stays set m a) (stays set m b) h).0 in
      ⊎_elim (λ t. t) (λ t. absurd (false≢true (sym none ∙ (and_parts (is_below_some old set a) (is_above_some old set b) t).0)))
      (or_cases (is_le old a b) (is_below_some old set a && is_above_some old set b) x.0))
      (λ h.
      let self = p.reflexive a (p.lower_lives a b h) in
      rw (or_left (is_le old a b) (is_below_some old set a && is_above_some old set b) h, out m a a none self, out m a b none h) refl))

  pub under_former : (n : NodeId) (t : ℕ) → set ≡ n ∷ [] → IsUnder old n.0 t new → IsFormerOf old new kept
  under_former n t is under = former_of (λ a none b.
      let no : is_le old a n.0 ≡ false = sym (has_any_one (row old.le a) n) ∙ (ap (has_any (row old.le a)) (sym is) ∙ none) in
      under a b ∙ rw no (none_more (is_le old a b)))
    where
      none_more : (x : Bool) → (x || false) ≡ x
      none_more true = refl
      none_more false = refl
