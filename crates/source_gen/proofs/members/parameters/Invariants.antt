use Rattle.std.proofs.Common.{◌≡◌, ◌++◌, drop, map}
use Rattle.java_core.specs.Programs.{local_seen}
use Rattle.write_model.specs.Members.{parameters}
use Rattle.source_gen.proofs.members.parameters.Given as goal

abbrev pub invariant-loop-i : goal.invariant-loop-i
invariant-loop-i l =
    l.list.items ++ parameters l.i (map local_seen (drop l.i l.code.params.now.items))
    ≡ parameters 0 (map local_seen l.code.params.now.items)
