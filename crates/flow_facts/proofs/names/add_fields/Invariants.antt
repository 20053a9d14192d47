use Rattle.std.proofs.Common.{◌≡◌, ◌++◌, drop, map}
use Rattle.java_core.specs.Programs.{field_seen}
use Rattle.flow_facts.proofs.names.add_fields.Given as goal

abbrev pub invariant-loop-field : goal.invariant-loop-field
invariant-loop-field l = l.names.items ++ map (λ f. f.name) (map field_seen (drop l.field-index l.program.fields.items)) ≡ l.fn.names.items
    ++ map (λ f. f.name) (map field_seen l.program.fields.items)
