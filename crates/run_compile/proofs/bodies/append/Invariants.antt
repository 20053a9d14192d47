use Rattle.std.proofs.Common.{◌≡◌, ◌++◌, length, map}
use Rattle.run_code.specs.Seen.{op_of}
use Rattle.run_compile.proofs.bodies.append.Given as goal

abbrev pub invariant-loop-instr : goal.invariant-loop-instr
invariant-loop-instr l = map op_of l.code.items ++ l.part ≡ map op_of l.fn.code.items ++ l.fn.part

abbrev pub decreases-loop-instr : goal.decreases-loop-instr
decreases-loop-instr l = length l.part
