use Rattle.std.proofs.Common.{inr}
use Rattle.points_to.proofs.RoundLemmas.{on_false_of, done_flushed}
use Rattle.points_to.proofs.writes.take_write.Goals as goal

pub returns-clause-kept : goal.returns-clause-kept
returns-clause-kept c = done_flushed c.args.given.now.facts.now c.args.bases.now c.args.sets.now c.flush.new.sets c.args.pending.now c.in_ok-next.next c.in_ok-grew.grew
    c.in_ok-grew.ensures.step c.in_ok-grew.ensures.closed

pub returns-clause-here : goal.returns-clause-here
returns-clause-here c = on_false_of c.in_ok-grew.grew (inr c.in_ok-next.ensures.here)
