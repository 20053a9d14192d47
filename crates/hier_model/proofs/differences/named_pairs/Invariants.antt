use Rattle.std.proofs.Common.{◌≡◌, take}
use Rattle.std.specs.List.{flat_map}
use Rattle.hier_model.specs.Differences.{named_pair}
use Rattle.hier_model.proofs.differences.named_pairs.Given as goal

abbrev pub invariant-loop-change : goal.invariant-loop-change
invariant-loop-change l = l.pairs.items ≡ flat_map named_pair (take l.change-index l.changes)
