use Rattle.fact_model.specs.declared.facts.ColumnInfo.{ColumnInfo}
use Rattle.std.proofs.Common.{ℕ}
use Rattle.std.proofs.Common.{◌≡◌, ◌++◌, drop}
use Rattle.java_tree.specs.Syntax.{members}
use Rattle.flow_rules.specs.Ordered.{each, when}
use Rattle.hier_model.specs.Hierarchies.{stands_at}
use Rattle.write_model.specs.Members.{column_members}
use Rattle.write_forms.specs.Sources.{old_program, renaming}
use Rattle.source_gen.proofs.columns.add_columns.Given as goal

abbrev pub invariant-loop-c : goal.invariant-loop-c
invariant-loop-c l =
    let f = λ (c : ℕ) (k : ColumnInfo). when (stands_at l.nodes.source.hier.now l.n.0 c)
    (column_members (old_program l.nodes.source) (renaming l.nodes.source) l.nodes.facts.now l.nodes.source.hier.now
    l.nodes.source.numbering.now.columns.keys l.n.0 c k) in
    members l.into.items ++ each f l.c (drop l.c l.nodes.facts.now.columns.items) ≡ members l.fn.into.items ++ each f 0 l.nodes.facts.now.columns.items
