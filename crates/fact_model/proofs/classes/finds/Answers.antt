use Rattle.std.proofs.Common.{◌≡◌, ℕ, Option, Some, None, sym, ap, ◌∙◌}
use Rattle.std.specs.Option.{option_map, IfSome, IfNone}
use Rattle.kaba_base.specs.declared.ColId.{ColId}
use Rattle.fact_model.specs.Classes.{finds_within, finds, IsBodyFound, IsAcyclic}
use Rattle.fact_model.specs.declared.facts.Facts.{Facts}
use Rattle.fact_model.proofs.ClassLemmas.{finds-exact}
use Rattle.fact_model.proofs.classes.finds.Goals as goal
use Rattle.fact_model.proofs.classes.finds.Goals.{After-finds_within}

value : (c : After-finds_within) → option_map (λ (d : ColId). d.0) c.finds_within.result ≡ finds c.args.facts.now c.args.class.0 c.args.slot
value c = c.finds_within.ensures ∙ ap (λ n. finds_within c.args.facts.now n c.args.class.0 c.args.slot) (c.len.ensures ∙ c.args.facts.now.classes.ok.0)

found : (F : Facts) (a x : ℕ) (r : Option ColId) → IsAcyclic F → option_map (λ (d : ColId). d.0) r ≡ finds F a x → IfSome r (λ d. IsBodyFound F a x d.0)
found F a x None acyclic e = tt
found F a x (Some d) acyclic e = (finds-exact F acyclic a x d.0).0 (sym e)

none : (F : Facts) (a x : ℕ) (r : Option ColId) → IsAcyclic F → option_map (λ (d : ColId). d.0) r ≡ finds F a x → IfNone r ((d : ℕ) → IsBodyFound F a x d → ⊥)
none F a x None acyclic e = λ d h. cc ((finds-exact F acyclic a x d).1 h, e)
none F a x (Some d) acyclic e = tt

pub returns-clause-found : goal.returns-clause-found
returns-clause-found c = found c.args.facts.now c.args.class.0 c.args.slot c.finds_within.result c.requires.facts.acyclic
    (value (goal.at.returns-clause-found c).After-finds_within)

pub returns-clause-none : goal.returns-clause-none
returns-clause-none c = none c.args.facts.now c.args.class.0 c.args.slot c.finds_within.result c.requires.facts.acyclic
    (value (goal.at.returns-clause-none c).After-finds_within)
