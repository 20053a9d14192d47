use Rattle.std.proofs.Common.{length, sym, ◌∙◌, ◌&&◌}
use Rattle.std.specs.Prelude.{nat_lt}
use Rattle.fact_model.specs.Items.{column_slot}
use Rattle.hier_rules.specs.declared.broken.Rule.TheVariants.{B6}
use Rattle.hier_rules.specs.Instances.{of_column}
use Rattle.hier_rules.specs.Obligations.{is_body_at}
use Rattle.hier_rules.proofs.AnyLemmas.{none_where}
use Rattle.hier_rules.proofs.bodies.first_second_body.Goals as goal
use Rattle.hier_model.specs.Edits.{is_one_slot}

pub returns-then-not-is_body_at : goal.returns-then-not-is_body_at
returns-then-not-is_body_at c =
    let F = c.args.asked.now.facts.now in
    let H = c.args.asked.now.hier.now in
    sym (none_where (is_body_at F H c.args.n c.args.c) (λ d. is_body_at F H c.args.n d && nat_lt c.args.c d && is_one_slot (column_slot F c.args.c)
    (column_slot F d)) (of_column B6 c.args.n) (length F.columns.items)
    (sym c.is_body_at.ensures ∙ c.if-not-is_body_at.true))
