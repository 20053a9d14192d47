use Rattle.std.proofs.Common.{◌≡◌, ◌++◌, subst, sym}
use Rattle.std.specs.Str.{encode_utf8_all}
use Rattle.java_tree.specs.Syntax.{tree_of}
use Rattle.java_tree.specs.Formed.{IsFormedTree, IsGiven, IsReadAs}
use Rattle.java_print.specs.Layout.{tree_text}
use Rattle.name_rules.specs.Causes.{HasNoCondition}
use Rattle.java_write.specs.Written.{Appends}
use Rattle.java_write.proofs.Whole.{only_memory, hierarchy_formed, hierarchy_given, hierarchy_named, appends, on_both}
use Rattle.java_write.proofs.write_java.Goals as goal

pub resolve-requires : goal.resolve-requires
resolve-requires c = record {
  given = subst IsFormedTree (sym c.in_ok-tree.ensures.tree)
      (hierarchy_formed c.args.program.now c.args.facts.now c.args.hier.now c.in_ok-tree.ensures.formed c.in_ok-tree.ensures.typed c.requires.facts
      c.requires.unbroken);
}

pub print-requires : goal.print-requires
print-requires c =
    subst IsGiven (sym c.in_ok-tree.ensures.tree)
    (hierarchy_given c.args.program.now c.args.facts.now c.args.hier.now c.in_ok-tree.ensures.formed c.in_ok-tree.ensures.typed c.requires.facts
    c.requires.unbroken)

pub returns-in-Ok-clause-written : goal.returns-in-Ok-clause-written
returns-in-Ok-clause-written c =
    let text = encode_utf8_all (tree_text (tree_of c.in_ok-tree.tree)) in
    let before = c.args.into.now.items in
    let now = c.print.new.into.items in
    on_both c.print.result (now ≡ before ++ text) (IsReadAs text (tree_of c.in_ok-tree.tree))
    (Appends c.args.program.now c.args.facts.now c.args.hier.now before now)
    (appends c.args.program.now c.args.facts.now c.args.hier.now c.in_ok-tree.ensures.formed c.in_ok-tree.ensures.typed c.requires.facts
    c.requires.unbroken c.requires.text
    c.in-Ok._new (tree_of c.in_ok-tree.tree) before now c.in_ok-tree.ensures.tree c.in-Ok.ensures.resolves c.in-Ok.ensures.formed)
    c.print.ensures.text c.print.ensures.read

pub short_of_memory-requires : goal.short_of_memory-requires
short_of_memory-requires c =
    only_memory (tree_of c.in_ok-tree.tree) c.in-Err.refusal
    (subst HasNoCondition (sym c.in_ok-tree.ensures.tree)
    (hierarchy_named c.args.program.now c.args.facts.now c.args.hier.now c.in_ok-tree.ensures.formed c.in_ok-tree.ensures.typed c.requires.facts
    c.requires.unbroken))
    c.in-Err.ensures.refused
