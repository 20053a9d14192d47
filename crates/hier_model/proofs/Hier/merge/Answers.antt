use Rattle.std.proofs.Common.{◌≡◌, true, None, All, sym, ap, ◌∙◌, subst}
use Rattle.kaba_base.specs.declared.NodeId.{NodeId}
use Rattle.kaba_order.specs.Orders.{is_live}
use Rattle.hier_model.specs.Hierarchies.{Hierarchy}
use Rattle.hier_model.specs.Edits.{first_unknown}
use Rattle.hier_model.proofs.FitLemmas.{all_live}
use Rattle.hier_model.proofs.Hier.merge.Goals as goal

pub merged-requires-clause-live : goal.merged-requires-clause-live
merged-requires-clause-live c =
    let set = c.args.set.now.items in
    let none : first_unknown c.args.self.now.order set ≡ None =
    ap (λ (h : Hierarchy). first_unknown h.order set) (sym c.self.view_is) ∙ ap (first_unknown c.self.inside.order) (sym c.deref.ensures.value)
    ∙ sym c.in_default.ensures in
    subst (All (λ (s : NodeId). is_live c.args.self.now.order s.0 ≡ true)) (sym c.deref-2.ensures.value) (all_live c.args.self.now.order set none)

pub merge_order-requires-clause-live : goal.merge_order-requires-clause-live
merge_order-requires-clause-live c =
    all_live c.self.inside.order c.args.set.now.items (ap (first_unknown c.self.inside.order) (sym c.deref.ensures.value) ∙ sym c.in_default.ensures)
