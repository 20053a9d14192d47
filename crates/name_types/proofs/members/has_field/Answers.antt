use Rattle.std.proofs.Common.{ap, ◌∙◌}
use Rattle.std.specs.Prelude.{is_some}
use Rattle.name_types.proofs.members.has_field.Goals as goal

pub returns : goal.returns
returns c =
    c.is_some.ensures ∙ ap is_some (c.at.ensures ∙ c.requires.listed.fields.exact c.args.owner c.args.name.now)
