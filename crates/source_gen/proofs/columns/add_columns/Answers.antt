use Rattle.std.proofs.Common.{ℕ, arith}
use Rattle.fact_model.specs.declared.facts.ColumnInfo.{ColumnInfo}
use Rattle.flow_rules.specs.Ordered.{when}
use Rattle.hier_model.specs.Hierarchies.{stands_at}
use Rattle.write_model.specs.Members.{column_members}
use Rattle.write_forms.specs.Sources.{old_program, renaming}
use Rattle.source_gen.proofs.Loops.{each_column_more}
use Rattle.source_gen.proofs.columns.add_columns.Goals as goal

pub loop-c-preserved : goal.loop-c-preserved
loop-c-preserved c =
    let s = c.args.nodes.now in
    each_column_more s.facts.now
    (λ (k : ℕ) (column : ColumnInfo). when (stands_at s.source.hier.now c.args.n.0 k)
    (column_members (old_program s.source) (renaming s.source) s.facts.now s.source.hier.now s.source.numbering.now.columns.keys c.args.n.0 k column))
    c.loop-c.c _ _ _ (omega arith) c.in_ok-add_column.ensures c.loop-c.invariant
