use Rattle.hier_model.specs.Edits.{moved_row}
use Rattle.hier_model.proofs.Pushed.{pushed}
use Rattle.hier_model.proofs.moves.moved_rows.Goals as goal

pub loop-r-preserved : goal.loop-r-preserved
loop-r-preserved c = pushed (moved_row c.args.facts.now c.args.rows.now c.args.c c.args.n) c.loop-r.r c.moved_row.result c.loop-r.moved.items
    c.push.new.self.items c.in_ok-push.ensures.items c.moved_row.ensures c.loop-r.invariant
