use Rattle.std.proofs.Common.{◌≡◌, ◌++◌, drop, map}
use Rattle.std.specs.List.{flat_map}
use Rattle.java_core.specs.Programs.{method_seen}
use Rattle.flow_rules.specs.Facts.{maker_names}
use Rattle.flow_facts.proofs.names.add_makers.Given as goal

abbrev pub invariant-loop-method : goal.invariant-loop-method
invariant-loop-method l = l.names.items ++ flat_map maker_names (map method_seen (drop l.method-index l.program.methods.items)) ≡ l.fn.names.items
    ++ flat_map maker_names (map method_seen l.program.methods.items)
