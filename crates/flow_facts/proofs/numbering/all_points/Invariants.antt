use Rattle.std.proofs.Common.{◌≡◌, ◌++◌, drop, map}
use Rattle.std.specs.List.{flat_map}
use Rattle.flow_rules.specs.Numbered.{number_among, same_row, listed}
use Rattle.flow_facts.specs.Views.{outline_seen}
use Rattle.flow_facts.proofs.numbering.all_points.Given as goal

abbrev pub invariant-loop-outline : goal.invariant-loop-outline
invariant-loop-outline l = l.points.items ++ flat_map (λ o. flat_map (listed (number_among same_row l.rows.keys)) o.points)
    (map outline_seen (drop l.outline-index l.outlines.items)) ≡ flat_map (listed (number_among same_row l.rows.keys)) l.fn.statics.items
    ++ flat_map (λ o. flat_map (listed (number_among same_row l.rows.keys)) o.points) (map outline_seen l.outlines.items)
