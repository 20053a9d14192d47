use Rattle.std.proofs.Common.{◌≡◌, drop}
use Rattle.std.specs.Prelude.{map}
use Rattle.std.specs.List.{list_any}
use Rattle.java_core.specs.Programs.{program_of, field_seen}
use Rattle.same_program.specs.Same.{one_field_as}
use Rattle.same_program.proofs.matched.any_field.Given as goal

abbrev pub invariant-loop-i : goal.invariant-loop-i
invariant-loop-i l = list_any (one_field_as (program_of l.p) (program_of l.q) (field_seen l.one)) (map field_seen (drop l.i l.q.fields.items))
    ≡ list_any (one_field_as (program_of l.p) (program_of l.q) (field_seen l.one)) (map field_seen l.q.fields.items)
