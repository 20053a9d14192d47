use Rattle.fact_model.specs.declared.sets.PointsTo.{PointsTo}
use Rattle.points_to.proofs.SolveLemmas.{points_are, cells_are, points_all, cells_all, are_sets}
use Rattle.points_to.proofs.solve.Goals as goal

pub returns : goal.returns
returns c =
    let F = c.args.facts.now in
    let all = c.in_ok-points.points.items in
    let points = c.split_off.new.self in
    let cells = c.in_ok-cells.cells in
    let a = c.in_ok-points.ensures in
    let first = rw c.point_count.ensures at c.in_ok-cells.ensures.items in
    let rest = rw c.point_count.ensures at c.in_ok-cells.ensures.tail in
    let t : PointsTo = record { points = points; cells = cells; rows = c.in_ok-rows.rows } in
    record {
      sets = are_sets F t (points_are F all points.items cells.items a first rest) (cells_are F all points.items cells.items a first rest)
          (points_all F all points.items cells.items a first rest) (cells_all F all points.items cells.items a first rest)
          c.in_ok-rows.ensures.unions (rw c.deref.ensures.value at c.in_ok-rows.ensures.points) (rw c.deref-2.ensures.value at c.in_ok-rows.ensures.cells);
    }

pub unions-requires-clause-points : goal.unions-requires-clause-points
unions-requires-clause-points c =
    let e = c.in_ok-cells.ensures in
    rw c.deref.ensures.value (points_are c.args.facts.now c.in_ok-points.points.items _ c.in_ok-cells.cells.items c.in_ok-points.ensures
    (rw c.point_count.ensures at e.items) (rw c.point_count.ensures at e.tail))

pub unions-requires-clause-cells : goal.unions-requires-clause-cells
unions-requires-clause-cells c =
    let e = c.in_ok-cells.ensures in
    rw c.deref-2.ensures.value (cells_are c.args.facts.now c.in_ok-points.points.items _ c.in_ok-cells.cells.items c.in_ok-points.ensures
    (rw c.point_count.ensures at e.items) (rw c.point_count.ensures at e.tail))
