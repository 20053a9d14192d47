use Rattle.java_core.specs.Programs.{PlainLocal}
use Rattle.std.proofs.Common.{ℕ}
use Rattle.std.proofs.Common.{◌≡◌, ◌∷◌, [], ◌++◌, drop, map}
use Rattle.java_core.specs.Programs.{code_seen, local_seen}
use Rattle.flow_rules.specs.Ordered.{each}
use Rattle.write_model.specs.Members.{param}
use Rattle.write_forms.specs.Sources.{old_program, renaming}
use Rattle.source_gen.proofs.heads.params.Given as goal

abbrev pub invariant-loop-i : goal.invariant-loop-i
invariant-loop-i l =
    let f = λ (i : ℕ) (k : PlainLocal).
    param (old_program l.source) (renaming l.source) l.source.hier.now l.m (code_seen l.code) i k ∷ [] in
    l.list.items ++ each f l.i (map local_seen (drop l.i l.code.params.now.items)) ≡ each f 0 (map local_seen l.code.params.now.items)
