use Rattle.std.proofs.Common.{◌≡◌, ◌++◌, drop, map}
use Rattle.flow_facts.specs.Seen.{numbers_seen}
use Rattle.flow_rules.specs.Lists.{point_at}
use Rattle.flow_facts.proofs.lists.points_at.Given as goal

abbrev pub invariant-loop-operand : goal.invariant-loop-operand
invariant-loop-operand l = l.points.items ++ map (point_at (numbers_seen l.n)) (drop l.operand-index l.operands.items)
    ≡ map (point_at (numbers_seen l.n)) l.operands.items
