use Rattle.java_core.specs.Programs.{PlainClass}
use Rattle.std.proofs.Common.{ℕ}
use Rattle.std.proofs.Common.{◌≡◌, ◌∷◌, [], ◌++◌, drop, map}
use Rattle.java_tree.specs.Syntax.{decls}
use Rattle.java_core.specs.Programs.{class_seen}
use Rattle.flow_rules.specs.Ordered.{each, when}
use Rattle.flow_rules.specs.Facts.{is_holder}
use Rattle.write_model.specs.Written.{holder_tree}
use Rattle.write_forms.specs.Sources.{old_program, renaming}
use Rattle.source_gen.proofs.holders.add_holders.Given as goal

abbrev pub invariant-loop-c : goal.invariant-loop-c
invariant-loop-c l =
    let f = λ (c : ℕ) (k : PlainClass). when (is_holder (old_program l.source) c)
    (holder_tree (old_program l.source) (renaming l.source) l.source.hier.now c k ∷ []) in
    decls l.into.items ++ each f l.c (map class_seen (drop l.c l.source.program.now.classes.items))
    ≡ decls l.fn.into.items ++ each f 0 (map class_seen l.source.program.now.classes.items)
