use Rattle.std.proofs.Common.{◌≡◌, drop, map}
use Rattle.java_core.specs.Programs.{program_of, method_seen}
use Rattle.java_check.specs.ClassOutcome.{all_quiet}
use Rattle.java_check.proofs.classes.all_quiet.Given as goal

abbrev pub invariant-loop-method : goal.invariant-loop-method
invariant-loop-method l =
    let P = program_of l.p in
    all_quiet P (map method_seen l.methods) ≡ all_quiet P (map method_seen (drop l.method-index l.methods))
