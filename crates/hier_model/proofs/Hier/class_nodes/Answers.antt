use Rattle.std.proofs.Common.{◌≡◌, ◌<◌, true, length, sym, ap, ◌∙◌, subst, arith}
use Rattle.std.proofs.lemmas.Bool.{false≢true, false_from_ne_true}
use Rattle.kaba_bits.specs.Sets.{bit}
use Rattle.hier_model.specs.Hierarchies.{Hierarchy, is_class_node}
use Rattle.hier_model.proofs.ClassLemmas.{class_within}
use Rattle.hier_model.proofs.Hier.class_nodes.Goals as goal

-- at first all are open
pub mark_class_nodes-requires-clause-others : goal.mark_class_nodes-requires-clause-others
mark_class_nodes-requires-clause-others c =
    let F = c.args.facts.now in
    let H = c.args.self.now in
    let view = ap (λ (h : Hierarchy). length h.order.live) c.self.view_is in
    record {
      unasked_width = c.in_ok-unasked.ensures.width ∙ (c.count.ensures ∙ view);
      width = c.in_ok-classes.ensures.width ∙ (c.count-2.ensures ∙ view);
      exact = λ n off. c.in_ok-classes.ensures.empty n ∙ sym (false_from_ne_true (is_class_node F H n) (λ h.
          let lt = class_within F H c.requires.hierarchy.sized.order n h in
          false≢true (sym off ∙ c.in_ok-unasked.ensures.full n (omega (arith, lt, c.count.ensures, view)))));
    }
