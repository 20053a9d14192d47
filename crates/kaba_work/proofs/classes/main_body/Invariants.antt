use Rattle.std.proofs.Common.{◌≡◌, map}
use Rattle.std.specs.List.{range_with_len, flat_map}
use Rattle.java_tree.specs.Syntax.{stmt_of}
use Rattle.kaba_work.specs.Sample as sample
use Rattle.kaba_work.proofs.classes.main_body.Given as goal

abbrev pub invariant-loop-i : goal.invariant-loop-i
invariant-loop-i l = map stmt_of l.body.items ≡ flat_map sample.steps (range_with_len 0 l.i)
