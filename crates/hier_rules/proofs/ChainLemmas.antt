-- Class nodes at or above a node that form a chain, and the search for two that are not ordered.
use Rattle.std.proofs.Common.{◌≡◌, ◌≢◌, ℕ, ◌+◌, ◌<◌, ◌⊎◌, ◌&&◌, ◌||◌, eqb, not, Bool, true, false, List, length, Option, Some, None, refl, ◌↔◌, IsTrue, sym, ap, ◌∙◌, subst, arith, inl, inr, ⊎_elim}
use Rattle.std.specs.Prelude.{nat_lt, slice_set}
use Rattle.std.specs.Bool.{OnTrue}
use Rattle.std.proofs.lemmas.Bool.{cases_eq, cases_lt, cases_order, and_parts, and_from, or_cases, not-true, ne_eqb, eq-eqb, lt-ltb, ltb-true, false≢true, false_from_ne_true}
use Rattle.std.proofs.lemmas.List.{get_or-set_other, length-set}
use Rattle.kaba_bits.specs.Sets.{bit, row, first_below, when, IsNoneFrom, IsSubset}
use Rattle.kaba_bits.proofs.SetLemmas.{bit-below}
use Rattle.kaba_bits.proofs.FirstLemmas.{first_below_clear, first_below_None, first_below_more, when-None}
use Rattle.kaba_order.specs.Orders.{is_le, is_live, IsPartialOrder}
use Rattle.fact_model.specs.declared.facts.Facts.{Facts}
use Rattle.hier_model.specs.Hierarchies.{Hierarchy, is_class_node}
use Rattle.hier_rules.specs.declared.broken.Broken.{Broken}
use Rattle.hier_rules.specs.declared.broken.Rule.TheVariants.{B9}
use Rattle.hier_rules.specs.Instances.{of_three}
use Rattle.hier_rules.specs.Obligations.{is_class_above, unchained}
use Rattle.hier_rules.specs.Chains.{is_over, first_unchained_at, AreChained}

-- ---- a search among the numbers that pass a test
module _ {B : Type 0} (f : ℕ → Option B) (p : ℕ → Bool) (outside : (k : ℕ) → p k ≡ false → f k ≡ None) where
  -- where none passes, none is found
  pub search_past : (at to : ℕ) → first_below at f ≡ None → IsNoneFrom p at to → first_below to f ≡ None
  search_past at to before none =
      first_below_clear f to (λ k lt. ⊎_elim (λ low. first_below_None f at k before low) (λ high. outside k (none k high lt)) (cases_lt k at))

  pub search_more : (at z : ℕ) → first_below at f ≡ None → IsNoneFrom p at z → f z ≡ None → first_below (z + 1) f ≡ None
  search_more at z before none here = first_below_more f z (search_past at z before none) here

-- what a set has that gained a number
pub bit_gained : (set : List Bool) (n x : ℕ) → bit (slice_set set n true) x ≡ true → (x ≡ n) ⊎ (bit set x ≡ true)
bit_gained set n x h = ⊎_elim inl (λ ne. inr (sym (get_or-set_other set n x true false ne) ∙ h)) (cases_eq x n)

-- ---- chains
none_of : (a b c d e : Bool) (v : Broken) → (a ≡ true → b ≡ true → (d ≡ true) ⊎ (e ≡ true)) → when (a && (b && c && not d && not e)) v ≡ None
none_of false b c d e v h = refl
none_of true false c d e v h = refl
none_of true true false d e v h = refl
none_of true true true true e v h = refl
none_of true true true false true v h = refl
none_of true true true false false v h = absurd (⊎_elim (λ x. false≢true x) (λ x. false≢true x) (h refl refl))

one_of : (a b c d e : Bool) → (a && (b && c && not d && not e)) ≡ false → a ≡ true → b ≡ true → c ≡ true → (d ≡ true) ⊎ (e ≡ true)
one_of true true true true e h ha hb hc = inl refl
one_of true true true false true h ha hb hc = inr refl
one_of true true true false false h ha hb hc = absurd (false≢true (sym h))
one_of true true false d e h ha hb hc = absurd (false≢true hc)
one_of true false c d e h ha hb hc = absurd (false≢true hb)
one_of false b c d e h ha hb hc = absurd (false≢true ha)

not_after : (a b c d e : Bool) (v : Broken) → c ≡ false → when (a && (b && c && not d && not e)) v ≡ None
not_after false b c d e v h = refl
not_after true false c d e v h = refl
not_after true true c d e v h = rw h refl

all_of : (a b c d e : Bool) (v : Broken) → a ≡ true → b ≡ true → c ≡ true → d ≡ false → e ≡ false → when (a && (b && c && not d && not e)) v ≡ Some v
all_of a b c d e v ha hb hc hd he = rw (ha, hb, hc, hd, he) refl

module _ (F : Facts) (H : Hierarchy) where
  abbrev up : ℕ → ℕ → Bool
  up = is_class_above F H

  -- the class nodes at or above a node are ordered
  abbrev pub IsChain : ℕ → Type 0
  IsChain n = (x y : ℕ) → up n x ≡ true → up n y ≡ true → (is_le H.order x y ≡ true) ⊎ (is_le H.order y x ≡ true)

  pub record Says (a b : ℕ) : Type 0 where
    pub low : is_class_node F H a ≡ true
    pub high : is_class_node F H b ≡ true
    pub le : is_le H.order a b ≡ true

  pub says : (a b : ℕ) → up a b ≡ true → Says a b
  says a b h =
      let p = and_parts (is_class_node F H a && is_class_node F H b) (is_le H.order a b) h in
      let q = and_parts (is_class_node F H a) (is_class_node F H b) p.0 in
      record { low = q.0; high = q.1; le = p.1 }

  pub said : (a b : ℕ) → Says a b → up a b ≡ true
  said a b s =
      and_from (is_class_node F H a && is_class_node F H b) (is_le H.order a b)
      (and_from (is_class_node F H a) (is_class_node F H b) s.low s.high) s.le

  -- none is found where they are a chain
  pub chained : (n : ℕ) → IsChain n → first_unchained_at F H n ≡ None
  chained n chain =
      first_below_clear (λ x. first_below (length H.order.live) (unchained F H n x)) (length H.order.live) (λ x xn.
      first_below_clear (unchained F H n x) (length H.order.live) (λ y yn.
      none_of (up n x) (up n y) (nat_lt x y) (is_le H.order x y) (is_le H.order y x) (of_three B9 n x y) (chain x y)))

  pub ordered : (n x y : ℕ) → (is_le H.order x y ≡ true) ⊎ (is_le H.order y x ≡ true) → unchained F H n x y ≡ None
  ordered n x y h = none_of (up n x) (up n y) (nat_lt x y) (is_le H.order x y) (is_le H.order y x) (of_three B9 n x y) (λ hx hy. h)

  pub none_before : (n x : ℕ) → first_below (x + 1) (unchained F H n x) ≡ None
  none_before n x =
      first_below_clear (unchained F H n x) (x + 1) (λ y lt.
      let off : nat_lt x y ≡ false = false_from_ne_true (nat_lt x y) (λ h. let gt = ltb-true x y h in omega (arith, lt, gt)) in
      not_after (up n x) (up n y) (nat_lt x y) (is_le H.order x y) (is_le H.order y x) (of_three B9 n x y) off)

  pub unordered : (n x y : ℕ) → is_over F H n x ≡ true → is_over F H n y ≡ true → x < y → is_le H.order x y ≡ false → is_le H.order y x ≡ false
      → unchained F H n x y ≡ Some (of_three B9 n x y)
  unordered n x y hx hy lt le ge =
      all_of (up n x) (up n y) (nat_lt x y) (is_le H.order x y) (is_le H.order y x) (of_three B9 n x y) (and_parts (up n x) (not (eqb x n)) hx).0
      (and_parts (up n y) (not (eqb y n)) hy).0 (lt-ltb x y lt) le ge

  module _ (P : IsPartialOrder H.order) where
    within : (a b : ℕ) → up a b ≡ true → b < length H.order.live
    within a b h = bit-below H.order.live b (P.upper_lives a b (says a b h).le)

    pub over_within : (n x : ℕ) → is_over F H n x ≡ true → x < length H.order.live
    over_within n x h = within n x (and_parts (up n x) (not (eqb x n)) h).0

    pub over_live : (n x : ℕ) → is_over F H n x ≡ true → is_live H.order x ≡ true
    over_live n x h = P.upper_lives n x (says n x (and_parts (up n x) (not (eqb x n)) h).0).le

    -- and only there
    pub chain_of : (n : ℕ) → first_unchained_at F H n ≡ None → IsChain n
    chain_of n none x y hx hy =
        ⊎_elim
        (λ e. inl (subst (λ k. is_le H.order x k ≡ true) e (P.reflexive x (P.upper_lives n x (says n x hx).le))))
        (⊎_elim (λ lt. rises x y lt hx hy) (λ gt. ⊎_elim inr inl (rises y x gt hy hx)))
        (cases_order x y)
      where
        rises : (x y : ℕ) → x < y → up n x ≡ true → up n y ≡ true → (is_le H.order x y ≡ true) ⊎ (is_le H.order y x ≡ true)
        rises x y lt hx hy =
            let here = first_below_None (unchained F H n x) (length H.order.live) y
            (first_below_None (λ x. first_below (length H.order.live) (unchained F H n x)) (length H.order.live) x none (within n x hx)) (within n y hy) in
            one_of (up n x) (up n y) (nat_lt x y) (is_le H.order x y) (is_le H.order y x)
            (when-None (up n x && (up n y && nat_lt x y && not (is_le H.order x y) && not (is_le H.order y x))) (of_three B9 n x y) here) hx hy (lt-ltb x y lt)

    through : (n a b : ℕ) → up n a ≡ true → up a b ≡ true → up n b ≡ true
    through n a b h k =
        let s = says n a h in
        let t = says a b k in
        said n b (record { low = s.low; high = t.high; le = P.transitive n a b s.le t.le })

    -- what is above a chained node is chained
    pub chained_above : (n a : ℕ) → first_unchained_at F H n ≡ None → up n a ≡ true → first_unchained_at F H a ≡ None
    chained_above n a none h = chained a (λ x y hx hy. chain_of n none x y (through n a x h hx) (through n a y h hy))

    module _ (n : ℕ) (over : List Bool) (exact : (x : ℕ) → bit over x ≡ is_over F H n x) where
      pub over_says : (x : ℕ) → bit over x ≡ true → (Says n x) × (x ≢ n)
      over_says x h =
          let p = and_parts (up n x) (not (eqb x n)) (sym (exact x) ∙ h) in
          (says n x p.0, λ e. false≢true (sym (not-true (eqb x n) p.1) ∙ eq-eqb x n e))

      -- a class node at or above a node is that, or strictly above it
      same_or_over : (x : ℕ) → up n x ≡ true → (x ≡ n) ⊎ (bit over x ≡ true)
      same_or_over x h =
          ⊎_elim inl (λ ne. inr (exact x ∙ and_from (up n x) (not (eqb x n)) h (ap not (ne_eqb x n ne)))) (cases_eq x n)

      same_if_not : (x : ℕ) → bit over x ≡ false → up n x ≡ true → x ≡ n
      same_if_not x off h = ⊎_elim (λ e. e) (λ t. absurd (false≢true (sym off ∙ t))) (same_or_over x h)

      -- only what is strictly above a node is unordered
      pub no_first : (k : ℕ) → bit over k ≡ false → first_below (length H.order.live) (unchained F H n k) ≡ None
      no_first k off =
          first_below_clear (unchained F H n k) (length H.order.live) (λ y yn.
          none_of (up n k) (up n y) (nat_lt k y) (is_le H.order k y) (is_le H.order y k) (of_three B9 n k y)
          (λ hk hy. inl (subst (λ j. is_le H.order j y ≡ true) (sym (same_if_not k off hk)) (says n y hy).le)))

      pub no_second : (x k : ℕ) → bit over k ≡ false → unchained F H n x k ≡ None
      no_second x k off =
          none_of (up n x) (up n k) (nat_lt x k) (is_le H.order x k) (is_le H.order k x) (of_three B9 n x k)
          (λ hx hk. inr (subst (λ j. is_le H.order j x ≡ true) (sym (same_if_not k off hk)) (says n x hx).le))

      -- a node with no class node strictly above it is chained, and one where the lowest of them is
      pub chained_alone : IsNoneFrom (bit over) 0 (length over) → first_unchained_at F H n ≡ None
      chained_alone none =
          first_below_clear (λ x. first_below (length H.order.live) (unchained F H n x)) (length H.order.live) (λ x xn.
          no_first x (false_from_ne_true (bit over x) (λ t. false≢true (sym (none x (omega arith) (bit-below over x t)) ∙ t))))

      pub chained_by : (z : ℕ) → bit over z ≡ true → first_unchained_at F H z ≡ None → (b : Bool)
          → (IsTrue b ↔ IsSubset over (row H.order.le z)) → OnTrue b (first_unchained_at F H n ≡ None)
      chained_by z hz none false within = tt
      chained_by z hz none true within = chained n at
        where
          up_z : (x : ℕ) → bit over x ≡ true → up z x ≡ true
          up_z x h = said z x (record { low = (over_says z hz).0.high; high = (over_says x h).0.high; le = within.0 refl x h })

          at : IsChain n
          at x y hx hy =
              ⊎_elim
              (λ e. inl (subst (λ j. is_le H.order j y ≡ true) (sym e) (says n y hy).le))
              (λ ox. ⊎_elim
              (λ e. inr (subst (λ j. is_le H.order j x ≡ true) (sym e) (says n x hx).le))
              (λ oy. chain_of z none x y (up_z x ox) (up_z y oy))
              (same_or_over y hy))
              (same_or_over x hx)

      pub gained : (old mid : List Bool) → AreChained F H old → length mid ≡ length old → ((x : ℕ) → bit mid x ≡ (bit old x || bit over x))
          → first_unchained_at F H n ≡ None → AreChained F H (slice_set mid n true)
      gained old mid are len join none = record {
        width = length-set mid n true ∙ (len ∙ are.width);
        each = λ x h. ⊎_elim
            (λ e. subst (λ j. first_unchained_at F H j ≡ None) (sym e) none)
            (λ m. ⊎_elim
            (λ b. are.each x b)
            (λ o. chained_above n x none (said n x (over_says x o).0))
            (or_cases (bit old x) (bit over x) (sym (join x) ∙ m)))
            (bit_gained mid n x h);
      }
