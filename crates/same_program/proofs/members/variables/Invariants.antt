use Rattle.std.proofs.Common.{◌≡◌, drop}
use Rattle.std.specs.Prelude.{map}
use Rattle.java_core.specs.Programs.{program_of, local_seen}
use Rattle.same_program.specs.Same.{all_one, one_variable}
use Rattle.same_program.proofs.members.variables.Given as goal

abbrev pub invariant-loop-i : goal.invariant-loop-i
invariant-loop-i l = all_one (one_variable (program_of l.p) (program_of l.q)) (map local_seen (drop l.i l.a.items)) (map local_seen (drop l.i l.b.items))
    ≡ all_one (one_variable (program_of l.p) (program_of l.q)) (map local_seen l.a.items) (map local_seen l.b.items)
