use Rattle.std.proofs.Common.{◌≡◌, drop}
use Rattle.std.specs.Prelude.{map}
use Rattle.java_core.specs.Programs.{program_of, field_seen}
use Rattle.same_program.specs.Same.{each_has, one_field_as}
use Rattle.same_program.proofs.matched.each_field.Given as goal

abbrev pub invariant-loop-i : goal.invariant-loop-i
invariant-loop-i l = each_has (one_field_as (program_of l.p) (program_of l.q)) (map field_seen (drop l.i l.p.fields.items)) (map field_seen l.q.fields.items)
    ≡ each_has (one_field_as (program_of l.p) (program_of l.q)) (map field_seen l.p.fields.items) (map field_seen l.q.fields.items)
