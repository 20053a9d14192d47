use Rattle.std.proofs.Common.{◌≡◌, ℕ, length, ap, ◌∙◌, arith}
use Rattle.hier_model.specs.Hierarchies.{any_below}
use Rattle.source_gen.specs.Seen.{is_offered_as}
use Rattle.source_gen.proofs.Nodes.{offers_either}
use Rattle.source_gen.proofs.places.offered.Goals as goal

pub returns : goal.returns
returns c =
    let s = c.args.nodes.now in
    let F = s.facts.now in
    let H = s.source.hier.now in
    let end : c.loop-c.c ≡ length F.columns.items = omega arith in
    record {
      width = c.loop-c.invariant.width;
      exact = λ x lt. c.loop-c.invariant.offered x lt ∙ ap (λ (k : ℕ). any_below k (is_offered_as F H c.args.n.0 x c.args.bodies)) end
          ∙ offers_either F H c.args.n.0 x c.args.bodies;
    }
