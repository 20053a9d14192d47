-- The bodies of the methods so far stand in the code.
use Rattle.std.proofs.Common.{◌≡◌, length, map}
use Rattle.java_core.specs.Programs.{program_of}
use Rattle.run_code.specs.Seen.{op_of}
use Rattle.run_compile.specs.Bodies.{AreCompiled}
use Rattle.run_compile.proofs.compile.Given as goal

abbrev pub invariant-loop-i : goal.invariant-loop-i
invariant-loop-i l = record {
  counted : length l.entries.items ≡ l.i;
  compiled : AreCompiled (program_of l.p) (map op_of l.code.items) l.entries.items;
}
