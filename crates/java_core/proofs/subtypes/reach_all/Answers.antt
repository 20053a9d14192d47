use Rattle.std.proofs.Common.{get_or, arith}
use Rattle.std.proofs.lemmas.List.Elements.{Contains-get_or}
use Rattle.java_core.proofs.Walks.{gained-more}
use Rattle.java_core.proofs.subtypes.reach_all.Goals as goal

pub reach-requires-clause-x : goal.reach-requires-clause-x
reach-requires-clause-x c =
    let inside = c.requires.inside (get_or c.args.more.now c.loop-x.x-index 0) (Contains-get_or c.args.more.now c.loop-x.x-index 0 c.loop-x-test.true) in
    let len = c.loop-x.invariant.len in
    omega (arith, inside, len)

pub loop-x-preserved : goal.loop-x-preserved
loop-x-preserved c = gained-more c.args.rows.now c.args.known.now c.args.more.now c.loop-x.x-index _ _ _ _ _ _ c.loop-x-test.true c.loop-x.invariant
    c.in_ok-reach.ensures
