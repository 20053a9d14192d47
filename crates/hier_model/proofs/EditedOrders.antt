-- The orders after edits: a node put under another, one dropped, and nodes merged.
use Rattle.std.proofs.Common.{◌≡◌, ℕ, ◌<◌, ◌==◌, ◌&&◌, ◌||◌, not, Bool, true, false, List, [], ◌∷◌, length, Option, Some, None, All, refl, sym, ap, ◌∙◌, subst, arith, ⊎_elim, eq-eqb, eqb-true}
use Rattle.std.specs.Prelude.{unwrap_or}
use Rattle.std.proofs.lemmas.Bool.{cases_Bool, cases_eq, and_parts, and_from, or_cases, or_left, false≢true}
use Rattle.std.proofs.lemmas.Option.{same_Some}
use Rattle.kaba_base.specs.declared.NodeId.{NodeId}
use Rattle.kaba_bits.specs.Sets.{row, first_below, when}
use Rattle.kaba_bits.proofs.SetLemmas.{bit-below, same_bits}
use Rattle.kaba_bits.proofs.FirstLemmas.{first_below_None, first_below_Some, cases_Option}
use Rattle.kaba_order.specs.Orders.{Ordered, is_le, is_live, IsPartialOrder, is_among, is_below_some, is_above_some, stays, IsBetween, IsLeastMerged, IsUnder, IsLeastWith, IsDropped}
use Rattle.kaba_order.proofs.MergeLemmas.{has_any_some, any_has_some, least_merged}
use Rattle.kaba_order.proofs.StepLemmas as step
use Rattle.hier_model.specs.Edits.{merged_order, under_order, dropped_order, least_of}
use Rattle.hier_model.proofs.MergedLemmas.{when_some, when_true}
use Rattle.hier_model.proofs.OrderedLemmas.{made_live, made_le, made_widths, made_rows, made_count}

module _ (o : Ordered) (p : IsPartialOrder o) where
  lower : (a b : ℕ) → is_le o a b ≡ true → a < length o.live
  lower a b h = bit-below o.live a (p.lower_lives a b h)

  upper : (a b : ℕ) → is_le o a b ≡ true → b < length o.live
  upper a b h = bit-below o.live b (p.upper_lives a b h)

  module _ (n q : ℕ) where
    under_below : (a b : ℕ) → (is_le o a b || (is_le o a n && is_le o q b)) ≡ true → (a < length o.live) × (b < length o.live)
    under_below a b h =
        ⊎_elim
        (λ x. (lower a b x, upper a b x))
        (λ x. let y = and_parts (is_le o a n) (is_le o q b) x in (lower a n y.0, upper q b y.1))
        (or_cases (is_le o a b) (is_le o a n && is_le o q b) h)

    pub under_pairs : IsUnder o n q (under_order o n q)
    under_pairs = made_le o (is_live o) (λ a b. is_le o a b || (is_le o a n && is_le o q b)) (λ a h. bit-below o.live a h) under_below

    pub under_live : (under_order o n q).live ≡ o.live
    under_live =
        same_bits (under_order o n q).live o.live (made_count o (is_live o) (λ a b. is_le o a b || (is_le o a n && is_le o q b)))
        (λ i lt. made_live o (is_live o) (λ a b. is_le o a b || (is_le o a n && is_le o q b)) (λ a h. bit-below o.live a h) under_below i)

    pub under_made : is_live o n ≡ true → is_live o q ≡ true → (is_le o q n && not (q == n)) ≡ false → IsLeastWith o n q (under_order o n q)
    under_made nl ql none =
        step.least_under o (under_order o n q) n q p
        (made_rows o (is_live o) (λ a b. is_le o a b || (is_le o a n && is_le o q b)) (λ a h. bit-below o.live a h) under_below)
        (made_widths o (is_live o) (λ a b. is_le o a b || (is_le o a n && is_le o q b)) (λ a h. bit-below o.live a h) under_below)
        under_live under_pairs nl ql
        (λ h. ⊎_elim (λ e. e) (λ ne. absurd
        (false≢true (sym none ∙ and_from (is_le o q n) (not (q == n)) h (⊎_elim (λ t. absurd (ne (eqb-true q n t))) (λ f. ap not f)
        (cases_Bool (q == n)))))) (cases_eq q n))

  module _ (n : ℕ) where
    dropped_below : (a b : ℕ) → (is_le o a b && not (a == n) && not (b == n)) ≡ true → (a < length o.live) × (b < length o.live)
    dropped_below a b h =
        let x = and_parts (is_le o a b) (not (a == n)) (and_parts (is_le o a b && not (a == n)) (not (b == n)) h).0 in
        (lower a b x.0, upper a b x.0)

    live_below : (a : ℕ) → (is_live o a && not (a == n)) ≡ true → a < length o.live
    live_below a h = bit-below o.live a (and_parts (is_live o a) (not (a == n)) h).0

    pub dropped_made : IsDropped o n (dropped_order o n)
    dropped_made = record {
      count = made_count o (λ a. is_live o a && not (a == n)) (λ a b. is_le o a b && not (a == n) && not (b == n));
      live = made_live o (λ a. is_live o a && not (a == n)) (λ a b. is_le o a b && not (a == n) && not (b == n)) live_below dropped_below;
      le = made_le o (λ a. is_live o a && not (a == n)) (λ a b. is_le o a b && not (a == n) && not (b == n)) live_below dropped_below;
    }

    pub dropped_partial : IsPartialOrder (dropped_order o n)
    dropped_partial =
        step.dropped_order o (dropped_order o n) n p
        (made_rows o (λ a. is_live o a && not (a == n)) (λ a b. is_le o a b && not (a == n) && not (b == n)) live_below dropped_below)
        (made_widths o (λ a. is_live o a && not (a == n)) (λ a b. is_le o a b && not (a == n) && not (b == n)) live_below dropped_below)
        dropped_made

  module _ (set : List NodeId) (m : ℕ) where
    abbrev pub merged_le : ℕ → ℕ → Bool
    merged_le a b = (is_le o a b || (is_below_some o set a && is_above_some o set b)) && stays set m a && stays set m b

    pub merged_below : (a b : ℕ) → merged_le a b ≡ true → (a < length o.live) × (b < length o.live)
    merged_below a b h =
        let pair = is_le o a b || (is_below_some o set a && is_above_some o set b) in
        let x = and_parts pair (stays set m a) (and_parts (pair && stays set m a) (stays set m b) h).0 in
        ⊎_elim
        (λ y. (lower a b y, upper a b y))
        (λ y.
        let z = and_parts (is_below_some o set a) (is_above_some o set b) y in
        let low = has_any_some (row o.le a) set z.0 in
        let high = any_has_some o.le set b z.1 in
        (lower a low.0 low.2, upper high.0 b high.2))
        (or_cases (is_le o a b) (is_below_some o set a && is_above_some o set b) x.0)

    pub merged_live : (a : ℕ) → (is_live o a && stays set m a) ≡ true → a < length o.live
    merged_live a h = bit-below o.live a (and_parts (is_live o a) (stays set m a) h).0

    pub merged_made : is_among set m ≡ true → ((s : ℕ) → is_among set s ≡ true → is_live o s ≡ true) → ((x : ℕ) → IsBetween o set x → ⊥)
        → IsLeastMerged o set m (merged_order o set m)
    merged_made has live none =
        least_merged o (merged_order o set m) set m p
        (made_rows o (λ a. is_live o a && stays set m a) merged_le merged_live merged_below)
        (made_widths o (λ a. is_live o a && stays set m a) merged_le merged_live merged_below)
        (made_count o (λ a. is_live o a && stays set m a) merged_le)
        (made_live o (λ a. is_live o a && stays set m a) merged_le merged_live merged_below)
        (made_le o (λ a. is_live o a && stays set m a) merged_le merged_live merged_below)
        has live none

-- the least node of a list is one of it, and live
pub least_among : (o : Ordered) (set : List NodeId) → 0 < length set → All (λ s. is_live o s.0 ≡ true) set → (is_among set (least_of o set) ≡ true)
    × (least_of o set < length o.live)
least_among o [] lt all = absurd (omega (arith, lt))
least_among o (n ∷ ns) lt all =
    let f : ℕ → Option ℕ = λ k. when (is_among (n ∷ ns) k) k in
    let here : is_among (n ∷ ns) n.0 ≡ true = or_left (n.0 == n.0) (is_among ns n.0) (eq-eqb n.0 n.0 refl) in
    ⊎_elim
    (λ none.
    let e = first_below_None f (length o.live) n.0 none (bit-below o.live n.0 (all 0 n (omega arith))) in
    let z : Some n.0 ≡ None = sym (when_true (is_among (n ∷ ns) n.0) n.0 here) ∙ e in absurd (cc z))
    (λ y.
    let s = first_below_Some f (length o.live) y.0 y.1 in
    let t = when_some (is_among (n ∷ ns) s.0) s.0 y.0 s.2 in
    let k : s.0 ≡ y.0 = same_Some s.0 y.0 (sym (when_true (is_among (n ∷ ns) s.0) s.0 t) ∙ s.2) in
    let low : least_of o (n ∷ ns) ≡ y.0 = ap (λ x. unwrap_or x 0) y.1 in
    (subst (λ x. is_among (n ∷ ns) x ≡ true) (k ∙ sym low) t, omega (arith, s.1, k, low)))
    (cases_Option (first_below (length o.live) f))
