use Rattle.std.proofs.Common.{sym, ap, ◌∙◌}
use Rattle.java_core.specs.Programs.{program_of, field_seen}
use Rattle.java_core.specs.Classes.{is_field_of}
use Rattle.java_core.specs.Own.{own_named}
use Rattle.java_core.proofs.Positions.{position-map}
use Rattle.java_core.proofs.classes.own_named.Goals as goal

pub returns-in-Field : goal.returns-in-Field
returns-in-Field c =
    c.member.ensures ∙ c.own_field_at.ensures.value
    ∙ sym (position-map field_seen (λ f. is_field_of c.args.class.0 c.args.name.now f) c.args.p.now.fields.items)
    ∙ ap (λ n. own_named (program_of c.args.p.now) n c.args.class.0 c.args.name.now) (sym c.in-Field.is)
