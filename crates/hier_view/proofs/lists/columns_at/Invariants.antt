use Rattle.std.proofs.Common.{◌≡◌, ◌<◌, length, All}
use Rattle.hier_model.specs.Hierarchies.{stands_at}
use Rattle.hier_view.specs.Text.{those_below}
use Rattle.hier_view.proofs.lists.columns_at.Given as goal

abbrev pub invariant-loop-c : goal.invariant-loop-c
invariant-loop-c l = (l.columns.items ≡ those_below l.c (stands_at l.hier l.n.0)) × All (λ c. c < length l.facts.columns.items) l.columns.items
