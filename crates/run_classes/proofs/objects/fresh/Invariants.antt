use Rattle.std.proofs.Common.{◌≡◌, ◌++◌, drop, map}
use Rattle.java_core.specs.Programs.{program_of}
use Rattle.java_heap.specs.Seen.{value_of}
use Rattle.java_meaning.specs.Languages.{default_at}
use Rattle.run_classes.proofs.objects.fresh.Given as goal

abbrev pub invariant-loop-field : goal.invariant-loop-field
invariant-loop-field l =
    map value_of l.values.items ++ map (λ f. default_at (program_of l.p) f) (drop l.field-index l.field-items)
    ≡ map (λ f. default_at (program_of l.p) f) l.field-items
