use Rattle.std.proofs.Common.{◌≡◌, ◌==◌}
use Rattle.hier_model.specs.Hierarchies.{place_of_row}
use Rattle.hier_view.specs.Text.{those_below}
use Rattle.hier_view.proofs.lists.rows_at.Given as goal

abbrev pub invariant-loop-r : goal.invariant-loop-r
invariant-loop-r l = l.rows.items ≡ those_below l.r (λ r. place_of_row l.hier r == l.n.0)
