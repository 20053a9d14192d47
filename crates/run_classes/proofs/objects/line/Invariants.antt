use Rattle.std.proofs.Common.{◌≡◌, ◌-◌, ◌++◌, length}
use Rattle.java_core.specs.Programs.{program_of}
use Rattle.run_classes.specs.Lines.{line_in}
use Rattle.run_classes.proofs.objects.line.Given as goal

abbrev pub invariant-loop-step : goal.invariant-loop-step
invariant-loop-step l =
    let P = program_of l.p in
    l.line.items ++ line_in P (length P.classes - l._step) l.at ≡ line_in P (length P.classes) l.fn.class
