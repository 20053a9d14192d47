-- The class nodes, by the nodes where a field, a body or an object site stands; and numbers that are marked one after the other.
use Rattle.std.proofs.Common.{◌≡◌, ◌≢◌, ℕ, ◌+◌, ◌<◌, ◌&&◌, ◌||◌, eqb, Bool, true, false, List, length, Option, Some, None, refl, sym, ap, ◌∙◌, subst, arith, ⊎_elim}
use Rattle.std.specs.Prelude.{nat_lt, slice_set}
use Rattle.std.proofs.lemmas.List.{get_or-set_same, get_or-set_other}
use Rattle.std.proofs.lemmas.Bool.{cases_eq, cases_lt, cases_order, and_parts, and_from, or_cases, or_left, or_right, eq-eqb, eqb-true, ne_eqb, lt-ltb, ltb-true, false≢true, false_from_ne_true}
use Rattle.kaba_base.specs.declared.NodeId.{NodeId}
use Rattle.kaba_base.proofs.TestLemmas.{same_truth}
use Rattle.kaba_bits.specs.Sets.{bit, IsNoneFrom}
use Rattle.kaba_bits.proofs.SetLemmas.{bit-below}
use Rattle.kaba_order.specs.Orders.{is_le, is_live, IsPartialOrder}
use Rattle.fact_model.specs.Items.{site_at, site_row, column_kind}
use Rattle.fact_model.specs.declared.facts.Facts.{Facts}
use Rattle.hier_model.specs.Hierarchies.{Hierarchy, any_below, place_of_column, place_of_row, is_at, is_above, is_offered, has_class_member, has_object, is_class_node, is_of_class}
use Rattle.hier_model.specs.Classes.{is_holder, is_member_at, is_object_at}
use Rattle.hier_model.proofs.AnyLemmas.{any_below_some, any_below_has}

-- a test of the numbers below a bound, one number on
one_more : (k : ℕ → Bool) (c x : ℕ) → ((nat_lt x c && k x) || (eqb c x && k c)) ≡ (nat_lt x (c + 1) && k x)
one_more k c x =
    ⊎_elim
    (λ e. same_truth ((nat_lt x c && k x) || (eqb c x && k c)) (nat_lt x (c + 1) && k x)
    (λ h. ⊎_elim
    (λ a. absurd (let lt = ltb-true x c (and_parts (nat_lt x c) (k x) a).0 in omega (arith, lt, e)))
    (λ b. and_from (nat_lt x (c + 1)) (k x) (lt-ltb x (c + 1) (omega (arith, e))) (subst (λ y. k y ≡ true) (sym e) (and_parts (eqb c x) (k c) b).1))
    (or_cases (nat_lt x c && k x) (eqb c x && k c) h))
    (λ h. or_right (nat_lt x c && k x) (eqb c x && k c) (and_from (eqb c x) (k c) (eq-eqb c x (sym e))
    (subst (λ y. k y ≡ true) e (and_parts (nat_lt x (c + 1)) (k x) h).1))))
    (⊎_elim
    (λ lt. rw (lt-ltb x c lt, lt-ltb x (c + 1) (omega (arith, lt)), ne_eqb c x (λ e. omega (arith, lt, e))) (or_false (k x)))
    (λ gt. rw (
      false_from_ne_true (nat_lt x c) (λ h. omega (arith, gt, ltb-true x c h)),
      false_from_ne_true (nat_lt x (c + 1))
          (λ h. omega (arith, gt, ltb-true x (c + 1) h)),
      ne_eqb c x (λ e. omega (arith, gt, e)),
    ) refl))
    (cases_order x c)
  where
    or_false : (b : Bool) → (b || false) ≡ b
    or_false true = refl
    or_false false = refl

-- the numbers below a bound that pass a test, marked: with one number more, and at the end
pub marked_next : (k : ℕ → Bool) (n : ℕ) (old new : List Bool) → ((x : ℕ) → bit new x ≡ (bit old x || (eqb n x && k n)))
    → ((x : ℕ) → bit old x ≡ (nat_lt x n && k x)) → (x : ℕ) → bit new x ≡ (nat_lt x (n + 1) && k x)
marked_next k n old new step known x = step x ∙ ap (λ b. b || (eqb n x && k n)) (known x) ∙ one_more k n x

pub marked_all : (k : ℕ → Bool) (i n : ℕ) (xs : List Bool) → i ≡ n → ((x : ℕ) → bit xs x ≡ (nat_lt x i && k x)) → (x : ℕ) → bit xs x ≡ (nat_lt x n && k x)
marked_all k i n xs e known x = known x ∙ ap (λ (j : ℕ). nat_lt x j && k x) e

-- the numbers of a set, marked one after the other by a test
module _ (k : ℕ → Bool) (n : ℕ) (old new : List Bool) (is : new ≡ slice_set old n (k n)) (lt : n < length old) where
  marked_here : bit new n ≡ k n
  marked_here = ap (λ l. bit l n) is ∙ get_or-set_same old n (k n) false lt

  marked_other : (x : ℕ) → x ≢ n → bit new x ≡ bit old x
  marked_other x ne = ap (λ l. bit l x) is ∙ get_or-set_other old n x (k n) false ne

  -- a number that was as the test says stays so
  pub marked_rest : (unasked : List Bool) → ((x : ℕ) → bit unasked x ≡ false → bit old x ≡ k x) → (x : ℕ) → bit unasked x ≡ false → bit new x ≡ k x
  marked_rest unasked rest x off =
      ⊎_elim (λ e. subst (λ y. bit new y ≡ k y) (sym e) marked_here) (λ ne. marked_other x ne ∙ rest x off) (cases_eq x n)

pub marked_done : (k : ℕ → Bool) (at n : ℕ) (old new : List Bool) → new ≡ slice_set old n (k n) → n < length old → (unasked : List Bool)
    → IsNoneFrom (bit unasked) at n → ((x : ℕ) → x < at → bit old x ≡ k x) → ((x : ℕ) → bit unasked x ≡ false → bit old x ≡ k x)
    → (x : ℕ) → x < n + 1 → bit new x ≡ k x
marked_done k at n old new is lt unasked none done rest x less =
    ⊎_elim
    (λ e. subst (λ y. bit new y ≡ k y) (sym e) (marked_here k n old new is lt))
    (λ ne. marked_other k n old new is lt x ne
    ∙ ⊎_elim (done x) (λ past. rest x (none x past (omega (arith, less, ne)))) (cases_lt x at))
    (cases_eq x n)

module _ (F : Facts) (H : Hierarchy) (P : IsPartialOrder H.order) where
  -- what a node offers, and what is at or above it, only a live one has
  pub offered_live : (n c : ℕ) → is_offered H n c ≡ true → is_live H.order n ≡ true
  offered_live n c h = at (place_of_column H c) h
    where
      at : (o : Option NodeId) → is_above H.order n o ≡ true → is_live H.order n ≡ true
      at None k = absurd (false≢true k)
      at (Some p) k = P.lower_lives n p.0 k

  pub class_live : (n : ℕ) → is_class_node F H n ≡ true → is_live H.order n ≡ true
  class_live n h =
      ⊎_elim
      (λ a. let c = any_below_some (λ c. is_of_class (column_kind F c) && is_offered H n c) (length F.columns.items) a in
      offered_live n c.0 (and_parts (is_of_class (column_kind F c.0)) (is_offered H n c.0) c.2).1)
      (λ b. let s = any_below_some (λ s. eqb (site_at F s).dim 0 && is_le H.order n (place_of_row H (site_row F s))) (length F.sites.items) b in
      P.lower_lives n (place_of_row H (site_row F s.0)) (and_parts (eqb (site_at F s.0).dim 0) (is_le H.order n (place_of_row H (site_row F s.0))) s.2).1)
      (or_cases (has_class_member F H n) (has_object F H n) h)

  pub class_dead : (n : ℕ) → is_live H.order n ≡ false → is_class_node F H n ≡ false
  class_dead n dead = false_from_ne_true (is_class_node F H n) (λ h. false≢true (sym dead ∙ class_live n h))

  pub class_within : (n : ℕ) → is_class_node F H n ≡ true → n < length H.order.live
  class_within n h = bit-below H.order.live n (class_live n h)

  member_above : (n p c : ℕ) → is_le H.order n p ≡ true → is_member_at F H p c ≡ true → (is_of_class (column_kind F c) && is_offered H n c) ≡ true
  member_above n p c le h =
      let x = and_parts (is_of_class (column_kind F c)) (is_at p (place_of_column H c)) h in
      and_from (is_of_class (column_kind F c)) (is_offered H n c) x.0 (at (place_of_column H c) x.1)
    where
      at : (o : Option NodeId) → is_at p o ≡ true → is_above H.order n o ≡ true
      at None k = absurd (false≢true k)
      at (Some q) k = subst (λ j. is_le H.order n j ≡ true) (sym (eqb-true q.0 p k)) le

  object_above : (n p s : ℕ) → is_le H.order n p ≡ true → is_object_at F H p s ≡ true
      → (eqb (site_at F s).dim 0 && is_le H.order n (place_of_row H (site_row F s))) ≡ true
  object_above n p s le h =
      let q = place_of_row H (site_row F s) in
      let x = and_parts (eqb (site_at F s).dim 0) (eqb q p) h in
      and_from (eqb (site_at F s).dim 0) (is_le H.order n q) x.0 (subst (λ j. is_le H.order n j ≡ true) (sym (eqb-true q p x.1)) le)

  -- a node is a class node where a field, a body or an object site stands at or above it
  abbrev held : ℕ → ℕ → Bool
  held n p = is_le H.order n p && is_holder F H p

  pub class_if_held : (n p : ℕ) → is_le H.order n p ≡ true → is_holder F H p ≡ true → is_class_node F H n ≡ true
  class_if_held n p le h =
      ⊎_elim
      (λ a. let c = any_below_some (is_member_at F H p) (length F.columns.items) a in
      or_left (has_class_member F H n) (has_object F H n)
      (any_below_has (λ c. is_of_class (column_kind F c) && is_offered H n c) (length F.columns.items) c.0 c.1 (member_above n p c.0 le c.2)))
      (λ b. let s = any_below_some (is_object_at F H p) (length F.sites.items) b in
      or_right (has_class_member F H n) (has_object F H n)
      (any_below_has (λ s. eqb (site_at F s).dim 0 && is_le H.order n (place_of_row H (site_row F s))) (length F.sites.items) s.0 s.1
      (object_above n p s.0 le s.2)))
      (or_cases (any_below (length F.columns.items) (is_member_at F H p)) (any_below (length F.sites.items) (is_object_at F H p)) h)

  held_by_member : (n c : ℕ) → c < length F.columns.items → is_of_class (column_kind F c) ≡ true → (o : Option NodeId) → place_of_column H c ≡ o
      → is_above H.order n o ≡ true → (p : ℕ) × (is_le H.order n p ≡ true) × (is_holder F H p ≡ true)
  held_by_member n c lt kind None e h = absurd (false≢true h)
  held_by_member n c lt kind (Some q) e h = (
    q.0,
    h,
    or_left (any_below (length F.columns.items) (is_member_at F H q.0)) (any_below (length F.sites.items) (is_object_at F H q.0))
        (any_below_has (is_member_at F H q.0) (length F.columns.items) c lt
        (and_from (is_of_class (column_kind F c)) (is_at q.0 (place_of_column H c)) kind
        (subst (λ o. is_at q.0 o ≡ true) (sym e) (eq-eqb q.0 q.0 refl)))),
  )

  pub held_if_class : (n : ℕ) → is_class_node F H n ≡ true → (p : ℕ) × (is_le H.order n p ≡ true) × (is_holder F H p ≡ true)
  held_if_class n h =
      ⊎_elim
      (λ a. let c = any_below_some (λ c. is_of_class (column_kind F c) && is_offered H n c) (length F.columns.items) a in
      let x = and_parts (is_of_class (column_kind F c.0)) (is_offered H n c.0) c.2 in
      held_by_member n c.0 c.1 x.0 (place_of_column H c.0) refl x.1)
      (λ b. let s = any_below_some (λ s. eqb (site_at F s).dim 0 && is_le H.order n (place_of_row H (site_row F s))) (length F.sites.items) b in
      let q = place_of_row H (site_row F s.0) in
      let x = and_parts (eqb (site_at F s.0).dim 0) (is_le H.order n q) s.2 in (
        q,
        x.1,
        or_right (any_below (length F.columns.items) (is_member_at F H q)) (any_below (length F.sites.items) (is_object_at F H q))
            (any_below_has (is_object_at F H q) (length F.sites.items) s.0 s.1 (and_from (eqb (site_at F s.0).dim 0) (eqb q q) x.0 (eq-eqb q q refl))),
      ))
      (or_cases (has_class_member F H n) (has_object F H n) h)
