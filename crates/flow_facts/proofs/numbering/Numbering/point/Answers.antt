use Rattle.std.proofs.Common.{◌∙◌, ap}
use Rattle.flow_rules.specs.Numbered.{number_among}
use Rattle.flow_rules.proofs.Same.{same_points}
use Rattle.flow_facts.proofs.numbering.Numbering.point.Goals as goal

pub returns : goal.returns
returns c = record { value = c.number_among.ensures.value ∙ ap (λ e. number_among e c.args.self.now.points.keys c.args.item) same_points }
