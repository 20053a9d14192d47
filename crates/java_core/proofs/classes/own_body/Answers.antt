use Rattle.std.proofs.Common.{◌&&◌, sym, ◌∙◌}
use Rattle.std.specs.Option.{is_some}
use Rattle.java_core.specs.Programs.{method_seen}
use Rattle.java_core.specs.Classes.{has_slot}
use Rattle.java_core.proofs.Positions.{position-map}
use Rattle.java_core.proofs.classes.own_body.Goals as goal

pub returns : goal.returns
returns c = c.member.ensures ∙ c.own_body_at.ensures.value
    ∙ sym (position-map method_seen (λ m. has_slot c.args.class.0 c.args.slot m && is_some m.body) c.args.p.now.methods.items)
