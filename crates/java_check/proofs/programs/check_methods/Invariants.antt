use Rattle.std.proofs.Common.{◌≡◌, drop, map}
use Rattle.java_core.specs.Programs.{program_of, method_seen}
use Rattle.java_check.specs.ProgramOutcome.{methods_answer}
use Rattle.java_check.proofs.programs.check_methods.Given as goal

abbrev pub invariant-loop-i : goal.invariant-loop-i
invariant-loop-i l =
    let P = program_of l.p in
    methods_answer P 0 (map method_seen l.methods) ≡ methods_answer P l.i (map method_seen (drop l.i l.methods))
