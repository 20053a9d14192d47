use Rattle.std.proofs.Common.{◌≡◌}
use Rattle.hier_model.specs.Covers.{is_cover}
use Rattle.hier_view.specs.Text.{those_below}
use Rattle.hier_view.proofs.lists.covers_by.Given as goal

abbrev pub invariant-loop-b : goal.invariant-loop-b
invariant-loop-b l = l.above.items ≡ those_below l.b (is_cover l.order l.n.0)
