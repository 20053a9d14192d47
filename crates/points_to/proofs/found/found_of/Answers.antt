use Rattle.points_to.proofs.AskedLemmas.{found_asked}
use Rattle.points_to.proofs.found.found_of.Goals as goal

pub returns : goal.returns
returns c =
    let p = found_asked c.args.facts.now c.requires _ c.in_ok-told.ensures c.in_ok-edges.ensures
    (rw c.in_ok-reads.ensures at c.in_ok-sort_by_key.ensures.permutation) (rw c.in_ok-writes.ensures at c.in_ok-sort_by_key-2.ensures.permutation)
    (rw c.in_ok-runs.ensures at c.in_ok-sort_by_key-3.ensures.permutation) in
    record { found = p.0; asked = p.1 }
