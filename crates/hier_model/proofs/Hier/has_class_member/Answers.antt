use Rattle.std.proofs.Common.{◌&&◌, sym, ap, ◌∙◌, length, arith}
use Rattle.std.proofs.lemmas.Bool.{and_from}
use Rattle.fact_model.specs.Items.{column_kind}
use Rattle.fact_model.specs.declared.facts.ColumnInfo.{ColumnInfo}
use Rattle.hier_model.specs.Hierarchies.{is_of_class, is_offered}
use Rattle.hier_model.proofs.AnyLemmas.{any_below_found}
use Rattle.hier_model.proofs.Hier.has_class_member.Goals as goal

pub returns-then-offers : goal.returns-then-offers
returns-then-offers c =
    let F = c.args.facts.now in
    let H = c.args.self.now in
    let n = c.args.n.0 in
    sym (any_below_found (λ k. is_of_class (column_kind F k) && is_offered H n k) (length F.columns.items) c.loop-c.c c.loop-c.invariant (omega arith)
    (and_from (is_of_class (column_kind F c.loop-c.c)) (is_offered H n c.loop-c.c) (ap (λ (x : ColumnInfo). is_of_class x.kind)
    (sym c.column_at.ensures) ∙ sym c.if-is_of_class.ensures) (sym c.if-offers.ensures)))
