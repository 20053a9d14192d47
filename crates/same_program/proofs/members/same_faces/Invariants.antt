use Rattle.std.proofs.Common.{◌≡◌, drop}
use Rattle.java_core.specs.Programs.{program_of}
use Rattle.same_program.specs.Same.{all_one, one_id}
use Rattle.same_program.proofs.members.same_faces.Given as goal

abbrev pub invariant-loop-i : goal.invariant-loop-i
invariant-loop-i l = all_one (one_id (program_of l.p) (program_of l.q)) (drop l.i l.a.items) (drop l.i l.b.items)
    ≡ all_one (one_id (program_of l.p) (program_of l.q)) l.a.items l.b.items
