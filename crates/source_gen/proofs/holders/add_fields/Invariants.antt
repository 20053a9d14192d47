use Rattle.std.proofs.Common.{◌≡◌, ◌++◌, drop, map}
use Rattle.java_tree.specs.Syntax.{members}
use Rattle.java_core.specs.Programs.{field_seen}
use Rattle.flow_rules.specs.Ordered.{each}
use Rattle.write_model.specs.Members.{static_field_member}
use Rattle.write_forms.specs.Sources.{old_program, renaming}
use Rattle.source_gen.proofs.holders.add_fields.Given as goal

abbrev pub invariant-loop-f : goal.invariant-loop-f
invariant-loop-f l =
    let f = static_field_member (old_program l.old.source.now) (renaming l.old.source.now) l.old.source.now.hier.now l.old.class in
    members l.into.items ++ each f l.f (map field_seen (drop l.f l.old.source.now.program.now.fields.items))
    ≡ members l.fn.into.items ++ each f 0 (map field_seen l.old.source.now.program.now.fields.items)
