use Rattle.std.proofs.Common.{◌≡◌, ℕ, ◌<◌, get_or, None}
use Rattle.std.specs.Option.{option_and_then}
use Rattle.fact_model.specs.Items.{site_class}
use Rattle.fact_model.specs.Classes.{finds}
use Rattle.hier_rules.specs.Obligations.{wrong_body}
use Rattle.hier_rules.proofs.bodies.first_wrong_call.Given as goal

abbrev pub invariant-loop-x : goal.invariant-loop-x
invariant-loop-x l = (j : ℕ) → j < l.x-index → option_and_then (wrong_body l.asked.facts.now l.asked.hier.now l.s)
    (finds l.asked.facts.now (site_class l.asked.facts.now l.s) (get_or l.slots j 0)) ≡ None
