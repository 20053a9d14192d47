use Rattle.std.proofs.Common.{[], ◌∷◌, below_more, arith}
use Rattle.why_table.specs.Search.{NoneUpTo}
use Rattle.why_table.proofs.find.search.by_first.Goals as goal

pub loop-i-preserved : goal.loop-i-preserved
loop-i-preserved c =
    let here = rw c.in_default.is at c.in_ok-found.ensures in
    below_more (λ i. NoneUpTo c.args.asked.now.facts.now c.args.asked.now.steps.now c.args.asked.now.claim c.args.rule (i ∷ []) 2) c.loop-i.i c.loop-i.invariant here

pub returns-in-Some : goal.returns-in-Some
returns-in-Some c = rw c.in-Some.is at c.in_ok-found.ensures

pub returns : goal.returns
returns c = λ i lt. c.loop-i.invariant i (omega (arith, lt, c.loop-i-test.false))
