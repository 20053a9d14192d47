use Rattle.std.proofs.Common.{◌≡◌, true, sym, ap, ◌∙◌, subst}
use Rattle.kaba_base.proofs.TestLemmas.{same_truth}
use Rattle.kaba_bits.specs.Sets.{bit, row}
use Rattle.kaba_order.specs.Orders.{Ordered, is_live}
use Rattle.hier_model.specs.Hierarchies.{Hierarchy, is_class_node}
use Rattle.hier_model.proofs.ClassLemmas.{class_if_held, held_if_class, class_dead}
use Rattle.hier_model.proofs.Hier.is_class.Goals as goal

pub returns-then-is_live : goal.returns-then-is_live
returns-then-is_live c =
    let F = c.args.facts.now in
    let H = c.args.self.now in
    let n = c.args.n.0 in
    let P = c.requires.hierarchy.sized.order in
    let same : c.self.inside.order ≡ H.order = ap (λ (h : Hierarchy). h.order) c.self.view_is in
    let above : c.above.result.now ≡ row H.order.le n = c.above.ensures ∙ ap (λ (o : Ordered). row o.le n) same in
    same_truth c.meets.result (is_class_node F H n)
    (λ h. let m = c.meets.ensures.0 h in
    class_if_held F H P n m.0 (subst (λ r. bit r m.0 ≡ true) above m.1) (sym (c.requires.holders.exact m.0) ∙ m.2))
    (λ h. let m = held_if_class F H P n h in
    c.meets.ensures.1 (m.0, subst (λ r. bit r m.0 ≡ true) (sym above) m.1, c.requires.holders.exact m.0 ∙ m.2))

pub returns-else-is_live : goal.returns-else-is_live
returns-else-is_live c =
    let H = c.args.self.now in
    let n = c.args.n.0 in
    let same : c.self.inside.order ≡ H.order = ap (λ (h : Hierarchy). h.order) c.self.view_is in
    c.if-is_live.false
    ∙ sym (class_dead c.args.facts.now H c.requires.hierarchy.sized.order n
    (ap (λ (o : Ordered). is_live o n) (sym same) ∙ (sym c.is_live.ensures ∙ c.if-is_live.false)))
