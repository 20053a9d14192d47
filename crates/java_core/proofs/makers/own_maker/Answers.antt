use Rattle.std.proofs.Common.{sym, ◌∙◌}
use Rattle.java_core.specs.Programs.{method_seen}
use Rattle.java_core.specs.Classes.{is_method_of}
use Rattle.java_core.specs.Makers.{maker_name}
use Rattle.java_core.proofs.Positions.{position-map}
use Rattle.java_core.proofs.makers.own_maker.Goals as goal

pub returns : goal.returns
returns c = c.member.ensures ∙ c.own_maker_at.ensures.value
    ∙ sym (position-map method_seen (λ m. is_method_of c.args.class.0 (maker_name c.args.name.now) m) c.args.p.now.methods.items)
