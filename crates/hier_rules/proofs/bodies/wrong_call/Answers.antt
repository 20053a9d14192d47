use Rattle.std.proofs.Common.{sym}
use Rattle.fact_model.proofs.ClassLemmas.{finds-found}
use Rattle.hier_rules.proofs.bodies.wrong_call.Goals as goal

pub wrong_body-requires-clause-body : goal.wrong_body-requires-clause-body
wrong_body-requires-clause-body c = (finds-found c.args.asked.now.facts.now _ _ _ (sym c.in-Some.ensures.value)).body.below
