use Rattle.points_to.specs.Work.{IsReadIn, IsWrite, IsRun}
use Rattle.points_to.proofs.MadeLemmas.{all_among}
use Rattle.points_to.proofs.turns.turn.Goals as goal

pub close_reads-requires-clause-reads : goal.close_reads-requires-clause-reads
close_reads-requires-clause-reads c = rw c.deref-5.ensures.value (all_among (IsReadIn c.args.given.now.facts.now) _ _ c.requires.given.found.reads
    (rw c.deref.ensures.value at c.in_ok-reads.ensures))

pub close_writes-requires-clause-writes : goal.close_writes-requires-clause-writes
close_writes-requires-clause-writes c = rw c.deref-7.ensures.value (all_among (IsWrite c.args.given.now.facts.now) _ _ c.requires.given.found.writes
    (rw c.deref-2.ensures.value at c.in_ok-writes.ensures))

pub close_runs-requires-clause-runs : goal.close_runs-requires-clause-runs
close_runs-requires-clause-runs c = rw c.deref-9.ensures.value (all_among (IsRun c.args.given.now.facts.now) _ _ c.requires.given.found.runs
    (rw c.deref-3.ensures.value at c.in_ok-runs.ensures))

pub close_reads-requires-2-clause-reads : goal.close_reads-requires-2-clause-reads
close_reads-requires-2-clause-reads c =
    let P = IsReadIn c.args.given.now.facts.now in
    let listed = all_among P _ _ c.requires.given.found.reads (rw c.deref-10.ensures.value at c.in_ok-listed.ensures) in
    rw c.deref-16.ensures.value (all_among P _ _ listed (rw c.deref-11.ensures.value at c.in_ok-grown_reads.ensures))

pub close_writes-requires-2-clause-writes : goal.close_writes-requires-2-clause-writes
close_writes-requires-2-clause-writes c = rw c.deref-18.ensures.value (all_among (IsWrite c.args.given.now.facts.now) _ _ c.requires.given.found.writes
    (rw c.deref-12.ensures.value at c.in_ok-grown_writes.ensures))
