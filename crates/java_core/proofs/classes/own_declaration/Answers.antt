use Rattle.std.proofs.Common.{sym, ◌∙◌}
use Rattle.java_core.specs.Programs.{method_seen}
use Rattle.java_core.specs.Classes.{has_slot}
use Rattle.java_core.proofs.Positions.{position-map}
use Rattle.java_core.proofs.classes.own_declaration.Goals as goal

pub returns : goal.returns
returns c = c.member.ensures ∙ c.own_declaration_at.ensures.value
    ∙ sym (position-map method_seen (λ m. has_slot c.args.class.0 c.args.slot m) c.args.p.now.methods.items)
