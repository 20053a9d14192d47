-- What the clauses on least orders say fixes the order.
use Rattle.std.proofs.Common.{◌≡◌, ℕ, Bool, List, length, sym, ap, ◌∙◌, subst}
use Rattle.kaba_base.specs.declared.NodeId.{NodeId}
use Rattle.kaba_base.proofs.TestLemmas.{same_truth}
use Rattle.kaba_bits.specs.Sets.{HasWidth}
use Rattle.kaba_bits.proofs.SetLemmas.{same_bits}
use Rattle.kaba_bits.proofs.RowLemmas.{same_rows}
use Rattle.kaba_order.specs.Orders.{Ordered, is_le, is_live, IsPartialOrder, IsWithin, IsLeastWith, IsLeastMerged}

-- two orders on as many nodes, each within the other, are one
pub same_order : (a b : Ordered) → IsPartialOrder a → IsPartialOrder b → length a.live ≡ length b.live → IsWithin a b → IsWithin b a → a ≡ b
same_order a b p q len ab ba =
    let live : a.live ≡ b.live = same_bits a.live b.live len (λ i lt. same_truth (is_live a i) (is_live b i)
    (λ h. q.lower_lives i i (ab i i (p.reflexive i h))) (λ h. p.lower_lives i i (ba i i (q.reflexive i h)))) in
    let rows : a.le ≡ b.le = same_rows (length a.live) a.le b.le (p.count ∙ (len ∙ sym q.count)) p.widths
    (subst (λ w. HasWidth w b.le) (sym len) q.widths) (λ k i. same_truth (is_le a k i) (is_le b k i) (ab k i) (ba k i)) in
    let first : a ≡ record { live = b.live; le = a.le } = ap (λ (l : List Bool). let o : Ordered = record { live = l; le = a.le } in o) live in
    first ∙ ap (λ (l : List (List Bool)). let o : Ordered = record { live = b.live; le = l } in o) rows

pub least_with_unique : (old : Ordered) (n p : ℕ) (a b : Ordered) → IsLeastWith old n p a → IsLeastWith old n p b → a ≡ b
least_with_unique old n p a b x y = same_order a b x.order y.order (ap (λ l. length l) (x.live ∙ sym y.live)) (x.least b y.order y.holds y.pair)
    (y.least a x.order x.holds x.pair)

pub least_merged_unique : (old : Ordered) (set : List NodeId) (m : ℕ) (a b : Ordered) → IsLeastMerged old set m a → IsLeastMerged old set m b → a ≡ b
least_merged_unique old set m a b x y = same_order a b x.order y.order (x.count ∙ sym y.count) (x.least b y.order y.holds) (y.least a x.order x.holds)
