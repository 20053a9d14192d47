use Rattle.points_to.proofs.AskedLemmas.{turn_closed}
use Rattle.points_to.proofs.closing.close_all.Goals as goal

pub returns-clause-closed : goal.returns-clause-closed
returns-clause-closed c =
    let told = c.close_told-told in
    let edges = c.in_ok-edges in
    let reads = c.in_ok-reads in
    let writes = c.in_ok-writes in
    let runs = c.in_ok-runs in
    let same = c.in_ok-bases.ensures in
    turn_closed c.args.given.now.facts.now c.args.given.now.found.now told.new.sets c.close_edges.new.sets c.close_reads.new.sets
    c.close_writes.new.sets c.close_runs.new.sets
    c.requires.given.asked told.result edges.edges reads.reads writes.writes runs.runs edges.ensures.step reads.ensures.step writes.ensures.step
    runs.ensures.step
    (rw c.deref.ensures.value at told.ensures.closed) (rw c.deref-2.ensures.value at edges.ensures.closed)
    (rw (c.deref-3.ensures.value, same, c.deref-4.ensures.value) at reads.ensures.closed)
    (rw (c.deref-5.ensures.value, same, c.deref-6.ensures.value) at writes.ensures.closed)
    (rw (c.deref-7.ensures.value, same, c.deref-8.ensures.value) at runs.ensures.closed)
