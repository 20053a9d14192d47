use Rattle.std.proofs.Common.{◌≡◌, ◌++◌}
use Rattle.hier_model.specs.Differences.{each_below}
use Rattle.hier_model.specs.Kinds.{changes_at}
use Rattle.hier_model.proofs.Hier.add_kind.Given as goal

abbrev pub invariant-loop-k : goal.invariant-loop-k
invariant-loop-k l = l.changes.items ≡ l.fn.changes.items ++ each_below l.k (changes_at l.kind l.self l.newer)
