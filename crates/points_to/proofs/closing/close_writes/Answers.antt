use Rattle.std.proofs.Common.{◌<◌, length, arith}
use Rattle.std.proofs.lemmas.Grind.{common_steps}
use Rattle.kaba_bits.proofs.StepLemmas.{IsStep-then}
use Rattle.points_to.specs.Work.{IsWriteClosed}
use Rattle.points_to.specs.Rounds.{IsDone}
use Rattle.points_to.proofs.RoundLemmas.{done_step, done_all, flush_closes, no_write}
use Rattle.points_to.proofs.closing.close_writes.Goals as goal

pub loop-x-preserved : goal.loop-x-preserved
loop-x-preserved c =
    let F = c.args.given.now.facts.now in
    let B = c.args.bases.now in
    let xs = c.args.writes.now in
    let k = c.loop-x.x-index in
    let old = c.loop-x.sets in
    let new = c.take_write.new.sets in
    let more = c.in_ok-more.more in
    let step = c.in_ok-more.ensures in
    let before = c.loop-x.invariant in
    let lt : k < length xs = grind (arith, common_steps) in
    record {
      sets = step.sets;
      pending = step.pending;
      step = IsStep-then c.args.sets.now old new c.loop-x.grew more before.step step.step;
      done = done_step (IsDone F B old c.loop-x.pending) (IsDone F B new c.take_write.new.pending) xs k no_write c.loop-x.grew more lt step.kept
          step.here before.done;
    }

pub returns-clause-closed : goal.returns-clause-closed
returns-clause-closed c =
    let F = c.args.given.now.facts.now in
    let B = c.args.bases.now in
    let old = c.loop-x.sets in
    let new = c.flush.new.sets in
    let p = c.loop-x.pending in
    let last = c.in_ok-last.last in
    let step = c.in_ok-last.ensures in
    done_all (IsDone F B old p) (IsWriteClosed F B new) c.args.writes.now c.loop-x.x-index c.loop-x.grew last (omega arith)
    (flush_closes F B old new p last step.step step.closed) c.loop-x.invariant.done
