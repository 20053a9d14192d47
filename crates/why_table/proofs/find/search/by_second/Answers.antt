use Rattle.std.proofs.Common.{[], ◌∷◌, below_more, arith}
use Rattle.why_table.specs.Search.{NoneUpTo}
use Rattle.why_table.proofs.find.search.by_second.Goals as goal

pub loop-j-preserved : goal.loop-j-preserved
loop-j-preserved c =
    let here = rw c.in_default.is at c.in_ok-found.ensures in
    below_more (λ j. NoneUpTo c.args.asked.now.facts.now c.args.asked.now.steps.now c.args.asked.now.claim c.args.rule (c.args.i ∷ j ∷ []) 1) c.loop-j.j c.loop-j.invariant here

pub returns-in-Some : goal.returns-in-Some
returns-in-Some c = rw c.in-Some.is at c.in_ok-found.ensures

pub returns : goal.returns
returns c = λ j lt. c.loop-j.invariant j (omega (arith, lt, c.loop-j-test.false))
