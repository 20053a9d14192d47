use Rattle.std.proofs.Common.{◌≡◌, drop, map}
use Rattle.java_tree.specs.Syntax.{exprs}
use Rattle.java_tree.proofs.Appended.{append_exprs}
use Rattle.java_core.specs.Programs.{local_seen}
use Rattle.write_model.specs.Members.{passed}
use Rattle.source_gen.proofs.makes.passed.Given as goal

abbrev pub invariant-loop-local : goal.invariant-loop-local
invariant-loop-local l =
    append_exprs (exprs l.args.items) (passed (map local_seen (drop l.local-index l.local-items))) ≡ passed (map local_seen l.code.params.now.items)
