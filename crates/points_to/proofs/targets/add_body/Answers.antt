use Rattle.std.proofs.Common.{◌≡◌, Some, sym, ◌∙◌, subst}
use Rattle.std.proofs.lemmas.List.Elements.{All-push}
use Rattle.fact_model.specs.Items.{site_class}
use Rattle.fact_model.specs.Classes.{finds}
use Rattle.points_to.specs.Called.{IsCalledNode}
use Rattle.points_to.proofs.IndexLemmas.{at_contains}
use Rattle.points_to.proofs.targets.add_body.Goals as goal

pub returns-in_ok-push-in-Some-clause-sound : goal.returns-in_ok-push-in-Some-clause-sound
returns-in_ok-push-in-Some-clause-sound c =
    let F = c.args.facts.now in
    let x = c.args.x.now in
    let body = c.body_at-body.result.now in
    let node : IsCalledNode F x c.in-Some.n = record {
      body = body;
      listed = at_contains F.bodies.items c.args.b body c.body_at-body.ensures;
      found = subst (λ k. finds F (site_class F x.site) x.slot ≡ Some k) (sym c.if-body-x.false) c.requires.called;
      node = sym c.body_node.ensures ∙ c.in-Some.is;
    } in
    rw c.in_ok-push-in-Some.ensures.items (All-push (IsCalledNode F x) c.args.list.now.items c.in-Some.n c.requires.sound node)
