use Rattle.name_bodies.proofs.MetLemmas.{names-more}
use Rattle.name_bodies.proofs.met.blocks_of_names.Goals as goal

pub loop-at-preserved : goal.loop-at-preserved
loop-at-preserved c =
    names-more c.args.rows.now c.args.headings.now.items c.args.spots.now c.loop-at.all.items c.push.new.self.items c.in_ok-blocks_at.field-0
    c.loop-at.invariant c.in_ok-blocks_at.ensures c.in_ok-push.ensures.items
