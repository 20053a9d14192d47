use Rattle.std.proofs.Common.{◌≡◌, map}
use Rattle.std.specs.List.{range_with_len}
use Rattle.java_tree.specs.Syntax.{decl_of}
use Rattle.kaba_work.specs.Sample as sample
use Rattle.kaba_work.proofs.classes.sample.Given as goal

abbrev pub invariant-loop-i : goal.invariant-loop-i
invariant-loop-i l = map decl_of l.decls.items ≡ map sample.class_tree (range_with_len 0 l.i)
