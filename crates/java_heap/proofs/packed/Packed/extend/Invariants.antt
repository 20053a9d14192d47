use Rattle.std.proofs.Common.{◌≡◌, ◌++◌, take}
use Rattle.java_heap.proofs.packed.Packed.extend.Given as goal

abbrev pub invariant-loop-value : goal.invariant-loop-value
invariant-loop-value l = l.self ≡ l.initial.self ++ take l.value-index l.values
