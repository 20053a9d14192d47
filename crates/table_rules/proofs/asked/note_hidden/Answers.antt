use Rattle.std.proofs.Common.{refl}
use Rattle.fact_model.specs.Entries.{Hides}
use Rattle.table_rules.proofs.AskLemmas.{pair_more}
use Rattle.table_rules.proofs.asked.note_hidden.Goals as goal

pub returns-then-hides-clause-step : goal.returns-then-hides-clause-step
returns-then-hides-clause-step c =
    let F = c.args.facts.now in
    let set = c.set_at.ensures in
    pair_more F (Hides F) c.args.hidden.now c.set_at.new.rows c.args.d c.args.c set.len set.widths set.added c.requires.hidden
    (c.if-hides.ensures.0 refl)
