use Rattle.std.proofs.Common.{get_or, ◌∙◌, arith}
use Rattle.points_to.specs.Rounds.{IsWhole}
use Rattle.points_to.proofs.RoundLemmas.{kept_more, read_holds, read_closed, turn_all, no_read}
use Rattle.points_to.proofs.closing.close_reads.Goals as goal

pub include_row-grew-requires-clause-holds : goal.include_row-grew-requires-clause-holds
include_row-grew-requires-clause-holds c =
    let g = c.in_ok-gather.ensures in
    read_holds c.args.given.now.facts.now c.args.bases.now c.gather.new.union (get_or c.args.reads.now c.loop-x.x-index no_read) c.requires.bases g.gathered
    (c.requires.reads c.loop-x.x-index no_read (omega arith)) (g.member ∙ c.turn_to.ensures.member) (rw c.row_at-set.ensures at g.within)

pub loop-x-preserved : goal.loop-x-preserved
loop-x-preserved c =
    let F = c.args.given.now.facts.now in
    let old = c.loop-x.sets in
    let g = c.in_ok-gather.ensures in
    let step = c.include_row-grew.ensures in (
      g.gathered,
      kept_more _ no_read c.loop-x.invariant.1 (omega arith) step.sets step.step
          (read_closed F c.args.bases.now old c.include_row-grew.new.sets c.gather.new.union (get_or c.args.reads.now c.loop-x.x-index no_read)
          (IsWhole F old c.loop-x.union) _ step.step (λ w. g.whole (c.turn_to.ensures.whole old w)) (g.member ∙ c.turn_to.ensures.member)
          (rw c.row_at-set.ensures at g.all) step.closed),
    )

pub returns-clause-closed : goal.returns-clause-closed
returns-clause-closed c = turn_all c.loop-x.invariant.1.turn (omega arith)
