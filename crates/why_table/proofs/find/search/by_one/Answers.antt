use Rattle.std.proofs.Common.{[], ◌∷◌}
use Rattle.why_table.proofs.FindLemmas.{none_further}
use Rattle.why_table.proofs.find.search.by_one.Goals as goal

pub returns-in-None : goal.returns-in-None
returns-in-None c =
    let none = rw c.in-None.is at c.in_ok-step.ensures in
    none_further c.args.asked.now.facts.now c.args.asked.now.steps.now c.args.asked.now.claim c.args.rule (c.args.i ∷ []) 1 c.by_second.result none
    c.by_second.ensures
