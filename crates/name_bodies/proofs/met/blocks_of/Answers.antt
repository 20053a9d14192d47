use Rattle.name_bodies.proofs.MetLemmas.{blocks-more}
use Rattle.name_bodies.proofs.met.blocks_of.Goals as goal

pub loop-number-preserved : goal.loop-number-preserved
loop-number-preserved c =
    blocks-more c.args.rows.now c.args.headings.now.items c.args.list.now c.loop-number.blocks.items c.push.new.self.items c.in_ok-block_of.field-0
    c.loop-number.invariant c.in_ok-block_of.ensures c.in_ok-push.ensures.items
