use Rattle.std.proofs.Common.{◌≡◌, ◌∷◌, [], Contains, sym, ◌∙◌, subst, arith}
use Rattle.std.proofs.lemmas.Bool.{false≢true}
use Rattle.std.proofs.lemmas.List.{nil_from_length}
use Rattle.std.proofs.lemmas.List.Elements.{Contains-push}
use Rattle.points_to.specs.Above.{WalkedAbove, GainedClasses}
use Rattle.points_to.proofs.AboveLemmas.{walked-start, walked-step, walked-end}
use Rattle.points_to.proofs.above.classes_above.Goals as goal

pub walk-init : goal.walk-init
walk-init c = walked-start c.args.facts.now c.args.a c.in_ok-row.row c.reach.new.row c.reach.new.waiting.items
    (omega (arith, c.in_ok-row.ensures.width, c.len.ensures)) (λ y h. false≢true (sym (c.in_ok-row.ensures.empty y) ∙ h)) c.requires.class
    (subst (λ w. GainedClasses (c.args.a ∷ []) c.in_ok-row.row c.reach.new.row w c.reach.new.waiting.items) c.new-waiting.ensures.items c.in_ok-reach.ensures)

pub reach_supers-requires-clause-class : goal.reach_supers-requires-clause-class
reach_supers-requires-clause-class c = c.walk.invariant.inside c.in-Some.x
    (subst (λ l. Contains l c.in-Some.x) (sym c.in-Some.ensures.items) (Contains-push c.pop.new.self.items c.in-Some.x))

pub walk-preserved : goal.walk-preserved
walk-preserved c =
    let F = c.args.facts.now in
    walked-step F c.args.a.0 c.walk.row c.reach_supers.new.row c.pop.new.self.items c.reach_supers.new.waiting.items c.in-Some.x
    (subst (WalkedAbove F c.args.a.0 c.walk.row) c.in-Some.ensures.items c.walk.invariant) c.in_ok-reach_supers.ensures

pub returns : goal.returns
returns c =
    let none : c.walk.waiting.items ≡ [] = nil_from_length c.walk.waiting.items (omega (arith, c.walk.waiting.ok.0, c.in_default.ensures.cases.0)) in
    walked-end c.args.facts.now c.args.a.0 c.walk.row (subst (WalkedAbove c.args.facts.now c.args.a.0 c.walk.row) none c.walk.invariant)
