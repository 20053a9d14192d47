use Rattle.std.proofs.Common.{◌∙◌, ap}
use Rattle.flow_rules.specs.Numbered.{number_among}
use Rattle.flow_rules.proofs.Same.{same_rows}
use Rattle.flow_rules.proofs.numbers.number_of_row.Goals as goal

pub returns : goal.returns
returns c = record { value = c.number_among.ensures.value ∙ ap (λ e. number_among e c.args.rows.now.keys c.args.item) same_rows }
