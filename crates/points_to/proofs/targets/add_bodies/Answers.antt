use Rattle.std.proofs.Common.{◌<◌, length, arith}
use Rattle.std.proofs.lemmas.Grind.{common_steps}
use Rattle.points_to.specs.Listed.{ListsBody}
use Rattle.points_to.proofs.LoopLemmas.{within_more}
use Rattle.points_to.proofs.targets.add_bodies.Goals as goal

pub loop-b-preserved : goal.loop-b-preserved
loop-b-preserved c =
    let xs = c.args.bodies.now in
    let k = c.loop-b.b-index in
    let step = c.in_ok-add_body.ensures in
    let lt : k < length xs = grind (arith, common_steps) in
    let P = ListsBody c.args.facts.now c.args.x.now.member c.args.x.now.column in
    record {
      sound = step.sound;
      here = within_more (P c.loop-b.list.items) (P c.add_body.new.list.items) xs k 0 lt (λ b h body is e n at. step.kept n (h body is e n at))
          c.loop-b.invariant.here step.here;
    }
