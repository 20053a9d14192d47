use Rattle.std.proofs.Common.{◌≡◌, drop}
use Rattle.java_core.specs.Programs.{program_of}
use Rattle.run_classes.specs.Lines.{fields_down}
use Rattle.run_classes.proofs.objects.layout.Given as goal

abbrev pub invariant-loop-i : goal.invariant-loop-i
invariant-loop-i l = l.fields.items ≡ fields_down (program_of l.p) (drop l.i l.line.items)
