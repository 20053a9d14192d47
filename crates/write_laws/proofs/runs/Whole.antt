-- The laws of the crates below, put together.
use Rattle.write_laws.proofs.bodies.InOrder.{resolved_in_order}
use Rattle.write_laws.specs.rebuilds.Laws.{TreeRebuilds, IsRebuiltProgram}
use Rattle.write_laws.proofs.rebuilds.Whole.{tree_rebuilds}
use Rattle.rebuild_laws.specs.types.Laws.{WrittenIsTyped, RowsAreOffered}
use Rattle.rebuild_laws.proofs.types.Whole.{written_is_typed, rows_are_offered}
use Rattle.rebuild_laws.specs.runs.Same.{RebuiltRunsTheSame}
use Rattle.rebuild_laws.proofs.runs.Whole.{rebuilt_runs_the_same}
use Rattle.write_laws.specs.runs.Laws.{WrittenRuns}

pub written_runs : WrittenRuns
unfolding WrittenRuns TreeRebuilds WrittenIsTyped RowsAreOffered RebuiltRunsTheSame
written_runs declarations P W F s t H resolved ready again formed =
    let made : IsRebuiltProgram P F H W = tree_rebuilds P F s H W (record {
      formed = ready.formed;
      typed = ready.typed;
      locals = resolved_in_order declarations P resolved;
      facts = ready.facts;
      hierarchy = ready.hierarchy;
      unbroken = ready.unbroken;
    }) again formed in
    record {
      rebuilds = made.rebuilds;
      typed = written_is_typed P F s t H W ready formed made.rebuilds made.written;
      rows = rows_are_offered P F s t H W ready formed made.rebuilds;
      run = rebuilt_runs_the_same P F s t H W ready formed made.rebuilds;
    }
