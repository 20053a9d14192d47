use Rattle.std.proofs.Common.{[], ◌∷◌, below_more, arith}
use Rattle.why_table.specs.Search.{NoneBy}
use Rattle.why_table.proofs.find.search.by_third.Goals as goal

pub loop-k-preserved : goal.loop-k-preserved
loop-k-preserved c =
    let here = rw c.in_default.is at c.in_ok-found.ensures in
    below_more (λ k. NoneBy c.args.asked.now.facts.now c.args.asked.now.steps.now c.args.asked.now.claim c.args.rule (c.args.i ∷ c.args.j ∷ k ∷ [])) c.loop-k.k c.loop-k.invariant here

pub returns-in-Some : goal.returns-in-Some
returns-in-Some c = rw c.in-Some.is at c.in_ok-found.ensures

pub returns : goal.returns
returns c = λ k lt. c.loop-k.invariant k (omega (arith, lt, c.loop-k-test.false))
