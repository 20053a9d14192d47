use Rattle.std.proofs.Common.{◌≡◌, drop}
use Rattle.std.specs.Prelude.{map}
use Rattle.std.specs.List.{list_any}
use Rattle.java_core.specs.Programs.{program_of, class_seen}
use Rattle.same_program.specs.Same.{one_class_as}
use Rattle.same_program.proofs.matched.any_class.Given as goal

abbrev pub invariant-loop-i : goal.invariant-loop-i
invariant-loop-i l = list_any (one_class_as (program_of l.p) (program_of l.q) (class_seen l.one)) (map class_seen (drop l.i l.q.classes.items))
    ≡ list_any (one_class_as (program_of l.p) (program_of l.q) (class_seen l.one)) (map class_seen l.q.classes.items)
