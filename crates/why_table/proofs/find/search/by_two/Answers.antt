use Rattle.why_table.proofs.FindLemmas.{none_third}
use Rattle.why_table.proofs.find.search.by_two.Goals as goal

pub returns-in-None : goal.returns-in-None
returns-in-None c =
    let none = rw c.in-None.is at c.in_ok-step.ensures in
    none_third c.args.asked.now.facts.now c.args.asked.now.steps.now c.args.asked.now.claim c.args.rule c.args.i c.args.j c.by_third.result none
    c.by_third.ensures
