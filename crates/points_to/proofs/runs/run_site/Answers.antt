use Rattle.std.proofs.Common.{get_or}
use Rattle.points_to.specs.declared.work.Member.TheVariants.{This}
use Rattle.points_to.proofs.RoundLemmas.{targets_below, run_at}
use Rattle.points_to.proofs.runs.run_site.Goals as goal

pub put_all-requires-clause-list : goal.put_all-requires-clause-list
put_all-requires-clause-list c = rw c.deref.ensures.value (targets_below c.args.given.now.facts.now c.requires.given.facts (This c.args.x.slot) c.args.o
    c.list_targets.new.list.items c.in_ok-list_targets.ensures)

pub put_all-requires-clause-holds : goal.put_all-requires-clause-holds
put_all-requires-clause-holds c = rw c.deref.ensures.value (λ k d lt. c.requires.run.flows c.args.o (get_or c.list_targets.new.list.items k d)
    c.requires.holds (c.in_ok-list_targets.ensures.sound k d lt))

pub returns-clause-closed : goal.returns-clause-closed
returns-clause-closed c = run_at c.args.given.now.facts.now c.put_all.new.sets c.args.x.slot c.args.o c.list_targets.new.list.items c.put_all.result
    c.in_ok-list_targets.ensures (rw c.deref.ensures.value at c.put_all.ensures.closed)
