use Rattle.std.proofs.Common.{◌≡◌, ◌++◌, drop, map}
use Rattle.java_tree.specs.Syntax.{members}
use Rattle.java_core.specs.Programs.{slot_seen}
use Rattle.flow_rules.specs.Ordered.{each}
use Rattle.source_gen.specs.Fills.{plain_fill}
use Rattle.source_gen.proofs.fillers.add_plain_fillers.Given as goal

abbrev pub invariant-loop-x : goal.invariant-loop-x
invariant-loop-x l =
    members l.into.items ++ each (plain_fill l.nodes l.n.0) l.x (map slot_seen (drop l.x l.nodes.source.program.now.slots.items))
    ≡ members l.fn.into.items ++ each (plain_fill l.nodes l.n.0) 0 (map slot_seen l.nodes.source.program.now.slots.items)
