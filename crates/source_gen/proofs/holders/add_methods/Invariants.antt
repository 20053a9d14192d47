use Rattle.std.proofs.Common.{◌≡◌, ◌++◌, drop, map}
use Rattle.java_tree.specs.Syntax.{members}
use Rattle.java_core.specs.Programs.{method_seen}
use Rattle.flow_rules.specs.Ordered.{each}
use Rattle.write_model.specs.Members.{static_method_member}
use Rattle.write_forms.specs.Sources.{old_program, renaming}
use Rattle.source_gen.proofs.holders.add_methods.Given as goal

abbrev pub invariant-loop-m : goal.invariant-loop-m
invariant-loop-m l =
    let f = static_method_member (old_program l.old.source.now) (renaming l.old.source.now) l.old.source.now.hier.now l.old.class in
    members l.into.items ++ each f l.m (map method_seen (drop l.m l.old.source.now.program.now.methods.items))
    ≡ members l.fn.into.items ++ each f 0 (map method_seen l.old.source.now.program.now.methods.items)
