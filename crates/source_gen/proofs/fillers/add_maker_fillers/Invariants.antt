use Rattle.std.proofs.Common.{◌≡◌, ◌++◌, ℕ, drop, map}
use Rattle.java_tree.specs.Syntax.{members}
use Rattle.java_core.specs.Programs.{PlainClass, class_seen}
use Rattle.flow_rules.specs.Ordered.{each}
use Rattle.source_gen.specs.Fills.{maker_fill}
use Rattle.source_gen.proofs.fillers.add_maker_fillers.Given as goal

abbrev pub invariant-loop-c : goal.invariant-loop-c
invariant-loop-c l =
    let f = λ (c : ℕ) (k : PlainClass). maker_fill l.nodes l.n.0 c in
    members l.into.items ++ each f l.c (map class_seen (drop l.c l.nodes.source.program.now.classes.items))
    ≡ members l.fn.into.items ++ each f 0 (map class_seen l.nodes.source.program.now.classes.items)
