use Rattle.std.proofs.Common.{◌≡◌, drop, map}
use Rattle.java_core.specs.Programs.{program_of, class_seen, method_seen}
use Rattle.java_check.specs.ClassOutcome.{is_kept}
use Rattle.java_check.proofs.classes.is_kept.Given as goal

abbrev pub invariant-loop-i : goal.invariant-loop-i
invariant-loop-i l =
    let P = program_of l.p in
    is_kept P (method_seen l.method) 0 (map class_seen l.classes) ≡ is_kept P (method_seen l.method) l.i (map class_seen (drop l.i l.classes))
