use Rattle.std.proofs.Common.{◌≡◌, ◌++◌, ◌-◌, length, drop}
use Rattle.java_meaning.specs.Values.{bytes_of}
use Rattle.java_heap.proofs.printing.write_units.Given as goal

abbrev pub invariant-loop-at : goal.invariant-loop-at
invariant-loop-at l = l.out.items ++ bytes_of (drop l.at l.units) ≡ l.initial.out.items ++ bytes_of l.units

abbrev pub decreases-loop-at : goal.decreases-loop-at
decreases-loop-at l = length l.units - l.at
