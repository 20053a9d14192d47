use Rattle.std.proofs.Common.{arith}
use Rattle.fact_model.specs.Flowing.{by_point}
use Rattle.points_to.proofs.unions.join_points.Goals as goal

pub join_set-requires-clause-holds : goal.join_set-requires-clause-holds
join_set-requires-clause-holds c =
    rw (c.point_row.ensures, c.row_at.ensures) (λ s h. by_point c.loop-p.p s (omega arith) (c.requires.points.sound c.loop-p.p s h))
