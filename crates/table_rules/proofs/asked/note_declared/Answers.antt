use Rattle.std.proofs.Common.{refl}
use Rattle.table_rules.specs.Closed.{ColumnFlows}
use Rattle.table_rules.proofs.CloseLemmas.{declared_flows}
use Rattle.table_rules.proofs.AskLemmas.{pair_more}
use Rattle.table_rules.proofs.asked.note_declared.Goals as goal

pub returns-then-is_declared_by-clause-step : goal.returns-then-is_declared_by-clause-step
returns-then-is_declared_by-clause-step c =
    let F = c.args.facts.now in
    let set = c.set_at.ensures in
    pair_more F (ColumnFlows F) c.args.asked.now c.set_at.new.rows c.args.d c.args.c set.len set.widths set.added c.requires.asked
    (declared_flows F c.args.d c.args.c c.requires.declaration (c.if-is_declared_by.ensures.0 refl))
