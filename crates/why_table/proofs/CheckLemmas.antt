-- The checker tells exactly whether steps follow.
use Rattle.std.proofs.Common.{◌≡◌, ℕ, ◌<◌, ◌↔◌, Bool, true, false, IsTrue, List, map, refl, sym, ◌∙◌}
use Rattle.std.specs.List.{All}
use Rattle.std.specs.Bool.{OnTrue}
use Rattle.fact_model.specs.InRange.{InRange}
use Rattle.fact_model.specs.declared.facts.Facts.{Facts}
use Rattle.why_table.specs.Tests.{test_rule}
use Rattle.why_table.specs.Trails.{claim_at, Follows}
use Rattle.why_table.proofs.RuleTests.{exact_rule}
use Rattle.why_table.specs.declared.trail.WhyStep.{WhyStep}

-- a step that names earlier steps alone follows exactly where the test of its rule is true
pub follows_exact : (F : Facts) → InRange F → (steps : List WhyStep) (k : ℕ) (step : WhyStep) (r : Bool) → All (λ j. j < k) step.from.items
    → r ≡ test_rule F step.rule (map (claim_at steps) step.from.items) step.claim → IsTrue r ↔ Follows F steps k step
follows_exact F R steps k step r earlier e =
    let exact = exact_rule F R step.rule (map (claim_at steps) step.from.items) step.claim in
    (λ h. record { earlier = earlier; given = exact.0 (sym e ∙ h) }, λ f. e ∙ exact.1 f.given)

-- where a test is exact, what follows holds where it is true
pub on_true : (r : Bool) (P Q : Type 0) → IsTrue r ↔ P → (P → Q) → OnTrue r Q
on_true true P Q h f = f (h.0 refl)
on_true false P Q h f = tt
