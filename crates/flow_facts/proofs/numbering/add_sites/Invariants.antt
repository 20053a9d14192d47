use Rattle.std.proofs.Common.{◌≡◌, ◌++◌, drop}
use Rattle.std.specs.List.{flat_map}
use Rattle.flow_rules.specs.Numbered.{number_among, same_row, form_sites}
use Rattle.flow_facts.specs.Views.{parts_seen}
use Rattle.flow_facts.proofs.numbering.add_sites.Given as goal

abbrev pub invariant-loop-part : goal.invariant-loop-part
invariant-loop-part l = l.sites.items ++ flat_map (form_sites (number_among same_row l.rows.keys)) (parts_seen (drop l.part-index l.parts.items))
    ≡ l.fn.sites.items ++ flat_map (form_sites (number_among same_row l.rows.keys)) (parts_seen l.parts.items)
