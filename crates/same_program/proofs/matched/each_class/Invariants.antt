use Rattle.std.proofs.Common.{◌≡◌, drop}
use Rattle.std.specs.Prelude.{map}
use Rattle.java_core.specs.Programs.{program_of, class_seen}
use Rattle.same_program.specs.Same.{each_has, one_class_as}
use Rattle.same_program.proofs.matched.each_class.Given as goal

abbrev pub invariant-loop-i : goal.invariant-loop-i
invariant-loop-i l = each_has (one_class_as (program_of l.p) (program_of l.q)) (map class_seen (drop l.i l.p.classes.items)) (map class_seen l.q.classes.items)
    ≡ each_has (one_class_as (program_of l.p) (program_of l.q)) (map class_seen l.p.classes.items) (map class_seen l.q.classes.items)
