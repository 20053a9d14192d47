use Rattle.std.proofs.Common.{ℕ, ap, ◌∙◌}
use Rattle.std.proofs.lemmas.Option.{same_Some}
use Rattle.name_bodies.proofs.Nearest.{only_other}
use Rattle.name_bodies.proofs.tables.only_under.Goals as goal

pub returns-in_default : goal.returns-in_default
returns-in_default c = only_other c.args.numbers.now c.args.class c.requires
    (λ e at same. c.if-one-class.false (ap (λ (p : ℕ × ℕ). p.0) (same_Some _ _ (c.in-Some.ensures.entry ∙ at)) ∙ same))
