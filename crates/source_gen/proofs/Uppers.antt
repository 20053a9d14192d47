-- The test of the lowest class node above, and what it says.
use Rattle.std.proofs.Common.{◌≡◌, ⊎_elim, ℕ, ◌<◌, ◌==◌, ◌↔◌, IsTrue, Bool, true, false, ◌&&◌, not, List, length, set, refl, sym, ap, ◌∙◌, subst}
use Rattle.std.proofs.lemmas.Bool.{false≢true, and_from, and_parts, cases_Bool, cases_eq, eq-eqb, ne_eqb, not_from_false}
use Rattle.std.proofs.lemmas.List.{get_or-set_same, get_or-set_other}
use Rattle.kaba_base.proofs.TestLemmas.{same_truth, refuted, from_not}
use Rattle.kaba_bits.specs.Sets.{bit, row, IsSubset}
use Rattle.kaba_bits.proofs.SetLemmas.{bit-below}
use Rattle.kaba_order.specs.Orders.{is_le}
use Rattle.fact_model.specs.declared.facts.Facts.{Facts}
use Rattle.hier_model.specs.Hierarchies.{Hierarchy, any_below, is_class_node}
use Rattle.hier_model.specs.Classes.{AreClassNodes}
use Rattle.hier_model.proofs.AnyLemmas.{any_below_some, any_below_none}
use Rattle.write_model.specs.Supers.{is_class_above, is_superclass}
use Rattle.source_gen.specs.Seen.{AreClassesAbove}

module _ (F : Facts) (H : Hierarchy) (n : ℕ) where
  -- the nodes at or above a node that are class nodes, without itself
  pub classes_left : (old classes met : List Bool) → old ≡ row H.order.le n → AreClassNodes F H classes → ((i : ℕ) → bit met i ≡ (bit old i && bit classes i))
      → n < length met → (a : ℕ) → bit (set met n false) a ≡ is_class_above F H n a
  classes_left old classes met same nodes step lt a =
      ⊎_elim
      (λ e. ap (bit (set met n false)) e ∙ get_or-set_same met n false false lt
      ∙ sym (ap (λ t. (is_le H.order n a && not t) && is_class_node F H a) (eq-eqb n a (sym e)) ∙ gone (is_le H.order n a) (is_class_node F H a)))
      (λ ne. get_or-set_other met n a false false ne ∙ step a ∙ ap (λ (r : List Bool). bit r a && bit classes a) same
      ∙ ap (λ t. is_le H.order n a && t) (nodes.exact a)
      ∙ sym (ap (λ t. (is_le H.order n a && not t) && is_class_node F H a) (ne_eqb n a (λ e. ne (sym e))) ∙ stays (is_le H.order n a) (is_class_node F H a)))
      (cases_eq a n)
    where
      gone : (x y : Bool) → ((x && false) && y) ≡ false
      gone true y = refl
      gone false y = refl

      stays : (x y : Bool) → ((x && true) && y) ≡ (x && y)
      stays true y = refl
      stays false y = refl

  module _ (above : List Bool) (known : AreClassesAbove F H n above) (a : ℕ) where
    abbrev elsewhere : ℕ → Bool
    elsewhere b = is_class_above F H n b && not (is_le H.order a b)

    subset_none : IsSubset above (row H.order.le a) → any_below (length H.order.live) elsewhere ≡ true → ⊥
    subset_none s h =
        let k = any_below_some elsewhere (length H.order.live) h in
        let p = and_parts (is_class_above F H n k.0) (not (is_le H.order a k.0)) k.2 in
        refuted (is_le H.order a k.0) p.1 (s k.0 (known.exact k.0 ∙ p.0))

    none_subset : any_below (length H.order.live) elsewhere ≡ false → IsSubset above (row H.order.le a)
    none_subset h i in_it =
        let no = any_below_none elsewhere (length H.order.live) i h (subst (λ (w : ℕ). i < w) known.width (bit-below above i in_it)) in
        ⊎_elim (λ t. t)
        (λ f. absurd (false≢true (sym no ∙ and_from (is_class_above F H n i) (not (is_le H.order a i)) (sym (known.exact i) ∙ in_it)
        (not_from_false (is_le H.order a i) f))))
        (cases_Bool (is_le H.order a i))

    -- an answer that tells whether all others are at or above a node, where it is one of the set
    pub lowest_test : (r : List Bool) (t : Bool) → r ≡ row H.order.le a → (IsTrue t ↔ IsSubset above r) → (bit above a && t) ≡ is_superclass F H n a
    lowest_test r t same e =
        let some = any_below (length H.order.live) elsewhere in
        ap (λ x. x && t) (known.exact a)
        ∙ ap (λ x. is_class_above F H n a && x)
        (same_truth t (not some)
        (λ h. ⊎_elim (λ k. absurd (subset_none (subst (λ x. IsSubset above x) same (e.0 h)) k)) (λ k. not_from_false some k) (cases_Bool some))
        (λ h. e.1 (subst (λ x. IsSubset above x) (sym same) (none_subset (from_not some h)))))
