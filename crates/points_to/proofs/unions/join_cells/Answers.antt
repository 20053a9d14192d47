use Rattle.std.proofs.Common.{arith}
use Rattle.fact_model.specs.Flowing.{by_cell}
use Rattle.points_to.proofs.unions.join_cells.Goals as goal

pub join_set-requires-clause-holds : goal.join_set-requires-clause-holds
join_set-requires-clause-holds c =
    rw (c.cell_at.ensures, c.row_at.ensures) (λ s h. by_cell c.loop-c.c s (omega arith) (c.requires.cells.sound c.loop-c.c s h))
