-- The least node of a list, and the first that lies between two of it.
use Rattle.std.proofs.Common.{◌≡◌, ℕ, ◌<◌, ◌↔◌, ◌⊎◌, ◌||◌, ◌&&◌, ◌==◌, not, Bool, true, false, List, length, Option, Some, None, Result, Ok, Err, All, refl, sym, ap, ◌∙◌, subst, arith, ⊎_elim, inl, inr, eqb-true}
use Rattle.std.proofs.lemmas.Bool.{cases_Bool, cases_lt, and_parts, and_from}
use Rattle.kaba_base.specs.declared.NodeId.{NodeId}
use Rattle.kaba_base.proofs.TestLemmas.{from_not}
use Rattle.kaba_bits.specs.Sets.{bit, row, first_below, when}
use Rattle.kaba_bits.proofs.SetLemmas.{bit-below}
use Rattle.kaba_bits.proofs.FirstLemmas.{first_below_found, first_below_clear, first_below_None, first_below_Some, cases_Option}
use Rattle.kaba_order.specs.Orders.{Ordered, is_le, is_live, IsPartialOrder, IsStrictlyBelow, is_among, is_below_some, is_above_some, IsLeastOf, IsBetween, IsFirstBetween}
use Rattle.kaba_order.proofs.MergeLemmas.{has_any_some, among-All}
use Rattle.hier_model.specs.Hierarchies.{node}
use Rattle.kaba_order.specs.Orders.{IsMerged, IsLeastMerged, IsUnder, IsLeastWith, IsDropped, stays}
use Rattle.kaba_order.specs.declared.Merged.{Merged}
use Rattle.kaba_order.specs.declared.OrderFault.{OrderFault}
use Rattle.kaba_order.specs.declared.Joined.{Joined}
use Rattle.kaba_order.specs.declared.OrderFault.TheVariants as fault
use Rattle.hier_model.specs.Edits.{least_of, first_between, merged_order, under_order, dropped_order, fault_of}
use Rattle.hier_model.specs.declared.edits.ChangeFault.TheVariants.{Memory, Cycle}
use Rattle.hier_model.proofs.OrderedLemmas.{made_order}

pub when_some : {B : Type 0} (b : Bool) (x y : B) → when b x ≡ Some y → b ≡ true
when_some true x y h = refl
when_some false x y h = absurd (cc h)

pub when_true : {B : Type 0} (b : Bool) (x : B) → b ≡ true → when b x ≡ Some x
when_true b x h = rw h refl

pub when_false : {B : Type 0} (b : Bool) (x : B) → b ≡ false → when b x ≡ None
when_false b x h = rw h refl

module _ (o : Ordered) (set : List NodeId) (p : IsPartialOrder o) where
  pub among_below : All (λ s. is_live o s.0 ≡ true) set → (m : ℕ) → is_among set m ≡ true → m < length o.live
  among_below all m h = bit-below o.live m (among-All (λ s. is_live o s ≡ true) set all m h)

  pub least_is : All (λ s. is_live o s.0 ≡ true) set → (m : ℕ) → IsLeastOf set m → least_of o set ≡ m
  least_is all m l =
      let f : ℕ → Option ℕ = λ k. when (is_among set k) k in
      let none : first_below m f ≡ None =
      first_below_clear f m (λ k lt. when_false (is_among set k) k (⊎_elim (λ t. let le = l.least k t in absurd (omega (arith, lt, le))) (λ e. e)
      (cases_Bool (is_among set k)))) in
      rw (first_below_found f m (length o.live) m (among_below all m l.among) none (when_true (is_among set m) m l.among)) refl

  abbrev between : ℕ → Option NodeId
  between x = when (not (is_among set x) && is_above_some o set x && is_below_some o set x) (node x)

  is_between : (x : ℕ) → IsBetween o set x → (not (is_among set x) && is_above_some o set x && is_below_some o set x) ≡ true
  is_between x b = and_from (not (is_among set x) && is_above_some o set x) (is_below_some o set x)
      (and_from (not (is_among set x)) (is_above_some o set x) (ap not b.outside) b.above) b.below

  from_between : (x : ℕ) (y : NodeId) → between x ≡ Some y → IsBetween o set x
  from_between x y h =
      let t = when_some (not (is_among set x) && is_above_some o set x && is_below_some o set x) (node x) y h in
      let a = and_parts (not (is_among set x) && is_above_some o set x) (is_below_some o set x) t in
      let b = and_parts (not (is_among set x)) (is_above_some o set x) a.0 in
      record { outside = from_not (is_among set x) b.0; above = b.1; below = a.1 }

  between_below : (x : ℕ) → IsBetween o set x → x < length o.live
  between_below x b = let s = has_any_some (row o.le x) set b.below in bit-below o.live x (p.lower_lives x s.0 s.2)

  pub between_some : (x : NodeId) → IsFirstBetween o set x.0 → first_between o set ≡ Some x
  between_some x f =
      first_below_found between x.0 (length o.live) x (between_below x.0 f.between)
      (first_below_clear between x.0 (λ k lt. ⊎_elim (λ e. e) (λ y. let le = f.first k (from_between k y.0 y.1) in absurd (omega (arith, lt, le)))
      (cases_Option (between k))))
      (when_true (not (is_among set x.0) && is_above_some o set x.0 && is_below_some o set x.0) x (is_between x.0 f.between))

  pub between_none : ((x : NodeId) → IsFirstBetween o set x.0 → ⊥) → first_between o set ≡ None
  between_none none =
      ⊎_elim (λ e. e)
      (λ y.
      let s = first_below_Some between (length o.live) y.0 y.1 in
      absurd (none (node s.0) (record {
        between = from_between s.0 y.0 s.2;
        first = λ x b.
            ⊎_elim
            (λ lt. let e = first_below_None between s.0 x s.3 lt in let z : Some (node x)
            ≡ None = sym (when_true (not (is_among set x) && is_above_some o set x && is_below_some o set x) (node x) (is_between x b))
            ∙ e in absurd (cc z))
            (λ ge. ge)
            (cases_lt x s.0);
      })))
      (cases_Option (first_between o set))

  pub none_between : first_between o set ≡ None → (x : ℕ) → IsBetween o set x → ⊥
  none_between none x b =
      let e = first_below_None between (length o.live) x none (between_below x b) in
      let z : Some (node x) ≡ None = sym (when_true (not (is_among set x) && is_above_some o set x && is_below_some o set x) (node x)
      (is_between x b)) ∙ e in absurd (cc z)

-- whether p is strictly below n
pub strictly_true : (o : Ordered) (p n : ℕ) → IsStrictlyBelow o p n → (is_le o p n && not (p == n)) ≡ true
strictly_true o p n h = and_from (is_le o p n) (not (p == n)) h.0 (⊎_elim (λ t. absurd (h.1 (eqb-true p n t))) (λ f. ap not f) (cases_Bool (p == n)))

-- what a merge of a copy has made
pub merged_is : (o old new : Ordered) (set : List NodeId) → old ≡ o → (m : ℕ) → IsLeastMerged old set m new → IsMerged old set m new
    → new ≡ merged_order o set m
merged_is o old new set e m least pairs =
    let least_o = subst (λ x. IsLeastMerged x set m new) e least in
    let pairs_o = subst (λ x. IsMerged x set m new) e pairs in
    made_order o (λ a. is_live o a && stays set m a) (λ a b. (is_le o a b || (is_below_some o set a && is_above_some o set b)) && stays set m a &&
    stays set m b) new least_o.order least_o.count least_o.live pairs_o

pub merged_none : (o old : Ordered) (set : List NodeId) (m : Merged) → IsPartialOrder o → old ≡ o
    → ((x : NodeId) → (◌≡◌ {A = Result Merged OrderFault} (Ok m) (Err (fault.Cycle x)) ↔ IsFirstBetween old set x.0)) → first_between o set ≡ None
merged_none o old set m p e cycle = between_none o set p (λ x f. let h = (cycle x).1 (subst (λ y. IsFirstBetween y set x.0) (sym e) f) in absurd (cc h))

pub merged_fault : (o old : Ordered) (set : List NodeId) (f : OrderFault) → IsPartialOrder o → old ≡ o
    → ((x : NodeId) → (◌≡◌ {A = Result Merged OrderFault} (Err f) (Err (fault.Cycle x)) ↔ IsFirstBetween old set x.0))
    → (fault_of f ≡ Memory) ⊎ ((x : NodeId) × (fault_of f ≡ Cycle x) × (first_between o set ≡ Some x))
merged_fault o old set fault.Memory p e cycle = inl refl
merged_fault o old set (fault.Cycle x) p e cycle = inr (x, refl, between_some o set p x (subst (λ y. IsFirstBetween y set x.0) e ((cycle x).0 refl)))

-- and what putting a node below another has
pub under_is : (o old new : Ordered) (n p : ℕ) → old ≡ o → IsLeastWith old n p new → IsUnder old n p new → new ≡ under_order o n p
under_is o old new n p e least pairs =
    made_order o (is_live o) (λ a b. is_le o a b || (is_le o a n && is_le o p b)) new least.order
    (ap (λ l. length l) (least.live ∙ ap (λ (x : Ordered). x.live) e))
    (λ a. ap (λ l. bit l a) (least.live ∙ ap (λ (x : Ordered). x.live) e)) (subst (λ x. IsUnder x n p new) e pairs)

pub under_fault : (o old : Ordered) (n p : NodeId) (f : OrderFault) → old ≡ o
    → ((x : NodeId) → (◌≡◌ {A = Result Joined OrderFault} (Err f) (Err (fault.Cycle x)) ↔ ((x ≡ n) × IsStrictlyBelow old p.0 n.0)))
    → (fault_of f ≡ Memory) ⊎ ((fault_of f ≡ Cycle n) × ((is_le o p.0 n.0 && not (p.0 == n.0)) ≡ true))
under_fault o old n p fault.Memory e cycle = inl refl
under_fault o old n p (fault.Cycle x) e cycle =
    let h = (cycle x).0 refl in inr (ap (λ y. Cycle y) h.0, strictly_true o p.0 n.0 (subst (λ y. IsStrictlyBelow y p.0 n.0) e h.1))

-- and what taking a node out has
pub dropped_is : (o old new : Ordered) (n : ℕ) → IsPartialOrder new → old ≡ o → IsDropped old n new → new ≡ dropped_order o n
dropped_is o old new n p e d =
    let dropped = subst (λ x. IsDropped x n new) e d in
    made_order o (λ a. is_live o a && not (a == n)) (λ a b. is_le o a b && not (a == n) && not (b == n)) new p dropped.count dropped.live dropped.le
