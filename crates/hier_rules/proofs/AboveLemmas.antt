-- The class nodes strictly above a node: those that are ordered with each other, and the others.
use Rattle.std.proofs.Common.{◌≡◌, ℕ, ◌&&◌, not, Bool, List, true, false, None, sym, ap, ◌∙◌, subst, ⊎_elim, inl}
use Rattle.std.proofs.lemmas.Bool.{cases_Bool, false≢true, and_parts, and_from, or_cases, or_left, or_right}
use Rattle.kaba_bits.specs.Sets.{bit, row}
use Rattle.kaba_order.specs.Orders.{is_le, IsPartialOrder}
use Rattle.fact_model.specs.declared.facts.Facts.{Facts}
use Rattle.hier_model.specs.Hierarchies.{Hierarchy}
use Rattle.hier_rules.specs.declared.chains.Above.{Above}
use Rattle.hier_rules.specs.declared.chains.ClassNodes.{ClassNodes}
use Rattle.hier_rules.specs.Obligations.{unchained}
use Rattle.hier_rules.specs.Chains.{is_over, first_unchained_at, AreOrdered, IsAbove}
use Rattle.hier_rules.proofs.ChainLemmas.{said, chain_of, ordered, no_second, over_says}

module _ (nodes : ClassNodes) (n : ℕ) (above : Above) (is : IsAbove nodes n above) where
  pub rest_over : (z : ℕ) → bit above.rest z ≡ true → is_over nodes.facts.now nodes.hier.now n z ≡ true
  rest_over z h = sym (is.over z) ∙ (and_parts (bit above.over z) (not (bit above.ordered z)) (sym (is.rest z) ∙ h)).0

  -- with one of the ordered ones only the others may not be ordered
  pub rest_none : IsPartialOrder nodes.hier.now.order → (x : ℕ) → bit above.ordered x ≡ true → (z : ℕ) → bit above.rest z ≡ false
      → unchained nodes.facts.now nodes.hier.now n x z ≡ None
  rest_none P x hx z off =
      let F = nodes.facts.now in
      let H = nodes.hier.now in
      ⊎_elim
      (λ hz. ordered F H n x z (or_cases (is_le H.order x z) (is_le H.order z x) (is.ordered x z hx hz)))
      (λ no. no_second F H P n above.over is.over x z
      (⊎_elim
      (λ t. absurd (false≢true (sym off ∙ (is.rest z ∙ and_from (bit above.over z) (not (bit above.ordered z)) t (ap not no)))))
      (λ f. f)
      (cases_Bool (bit above.over z))))
      (cases_Bool (bit above.ordered z))

-- of a set only those that are not above a node may be unordered with it
module _ (F : Facts) (H : Hierarchy) (n x : ℕ) (set up : List Bool) (is : up ≡ row H.order.le x) where
  pub none_but : ((z : ℕ) → bit set z ≡ false → unchained F H n x z ≡ None) → (z : ℕ) → (bit set z && not (bit up z)) ≡ false
      → unchained F H n x z ≡ None
  none_but others z off =
      ⊎_elim
      (λ h. ordered F H n x z (inl (subst (λ (r : List Bool). bit r z ≡ true) is h)))
      (λ no. others z (⊎_elim (λ t. absurd (false≢true (sym off ∙ and_from (bit set z) (not (bit up z)) t (ap not no)))) (λ f. f) (cases_Bool (bit set z))))
      (cases_Bool (bit up z))

pub not_up : (H : Hierarchy) (x : ℕ) (up : List Bool) → up ≡ row H.order.le x → (y : ℕ) → not (bit up y) ≡ true → is_le H.order x y ≡ false
not_up H x up is y h =
    sym (ap (λ (r : List Bool). bit r y) is)
    ∙ ⊎_elim (λ t. absurd (false≢true (sym (ap not t) ∙ h))) (λ f. f) (cases_Bool (bit up y))

-- what is at or above a chained node is ordered
pub ordered_above : (F : Facts) (H : Hierarchy) → IsPartialOrder H.order → (n : ℕ) (over : List Bool) → ((x : ℕ) → bit over x ≡ is_over F H n x)
    → (low : ℕ) → bit over low ≡ true → first_unchained_at F H low ≡ None → (set : List Bool)
    → ((x : ℕ) → bit set x ≡ true → (bit over x ≡ true) × (is_le H.order low x ≡ true)) → AreOrdered H set
ordered_above F H P n over exact low has none set within x y hx hy =
    let up : (z : ℕ) → bit set z ≡ true → _ = λ z h. let w = within z h in
    said F H low z (record { low = (over_says F H P n over exact low has).0.high; high = (over_says F H P n over exact z w.0).0.high; le = w.1 }) in
    ⊎_elim (or_left (is_le H.order x y) (is_le H.order y x)) (or_right (is_le H.order x y) (is_le H.order y x))
    (chain_of F H P low none x y (up x hx) (up y hy))
