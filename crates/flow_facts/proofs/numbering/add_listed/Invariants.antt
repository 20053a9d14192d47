use Rattle.std.proofs.Common.{◌≡◌, ◌++◌, drop}
use Rattle.std.specs.List.{flat_map}
use Rattle.flow_rules.specs.Numbered.{number_among, same_row, listed}
use Rattle.flow_facts.proofs.numbering.add_listed.Given as goal

abbrev pub invariant-loop-point : goal.invariant-loop-point
invariant-loop-point l = l.into.items ++ flat_map (listed (number_among same_row l.rows.keys)) (drop l.point-index l.points.items) ≡ l.fn.into.items
    ++ flat_map (listed (number_among same_row l.rows.keys)) l.points.items
