use Rattle.std.proofs.Common.{◌≡◌, ◌++◌, drop, map}
use Rattle.std.specs.List.{flat_map}
use Rattle.flow_rules.specs.Numbered.{number_among, same_row, form_sites}
use Rattle.flow_facts.specs.Views.{body_seen}
use Rattle.flow_facts.proofs.numbering.all_sites.Given as goal

abbrev pub invariant-loop-body : goal.invariant-loop-body
invariant-loop-body l = l.sites.items ++ flat_map (λ b. flat_map (form_sites (number_among same_row l.rows.keys)) b.parts)
    (map body_seen (drop l.body-index l.bodies.items)) ≡ flat_map (λ b. flat_map (form_sites (number_among same_row l.rows.keys)) b.parts)
    (map body_seen l.bodies.items)
