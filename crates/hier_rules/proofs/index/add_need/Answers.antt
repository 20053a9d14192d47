use Rattle.std.proofs.Common.{sym, arith}
use Rattle.fact_model.proofs.ClassLemmas.{finds-found}
use Rattle.hier_rules.proofs.index.add_need.Goals as goal

pub set-requires : goal.set-requires
set-requires c =
    let lt = (finds-found c.args.asked.now.facts.now _ _ _ (sym c.in-Some.ensures.value)).body.below in
    omega (arith, lt, c.requires.width)
