use Rattle.std.proofs.Common.{ℕ, ◌+◌, List, length, Contains, arith}
use Rattle.fact_model.specs.Flowing.{IsCell}
use Rattle.points_to.proofs.LoopLemmas.{within_more}
use Rattle.points_to.proofs.targets.add_cells.Goals as goal

pub loop-c-preserved : goal.loop-c-preserved
loop-c-preserved c =
    let step = c.in_ok-add_cell.ensures in
    let F = c.args.facts.now in
    let P = λ (list : List ℕ) (n : ℕ). IsCell F n c.args.o c.args.column → Contains list (length F.points.items + n) in
    record {
      sound = step.sound;
      here = within_more (P c.loop-c.list.items) (P c.add_cell.new.list.items) c.args.cells.now c.loop-c.c-index 0 (omega arith)
          (λ n h cell. step.kept _ (h cell)) c.loop-c.invariant.here step.here;
    }
