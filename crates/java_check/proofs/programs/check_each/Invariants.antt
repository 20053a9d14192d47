use Rattle.std.proofs.Common.{◌≡◌, drop, map}
use Rattle.java_core.specs.Programs.{program_of, class_seen}
use Rattle.java_check.specs.ProgramOutcome.{classes_answer}
use Rattle.java_check.proofs.programs.check_each.Given as goal

abbrev pub invariant-loop-i : goal.invariant-loop-i
invariant-loop-i l =
    let P = program_of l.p in
    classes_answer P 0 (map class_seen l.classes) ≡ classes_answer P l.i (map class_seen (drop l.i l.classes))
