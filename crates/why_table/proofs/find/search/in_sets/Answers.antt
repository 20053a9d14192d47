use Rattle.std.proofs.Common.{below_more, subst, arith}
use Rattle.kaba_bits.specs.Sets.{row}
use Rattle.why_table.specs.Search.{IsRowDone}
use Rattle.why_table.proofs.find.search.in_sets.Goals as goal

pub loop-a-preserved : goal.loop-a-preserved
loop-a-preserved c =
    let here = rw c.in_default.is at c.in_ok-found.ensures in
    below_more (λ a. IsRowDone c.args.given.now.facts.now c.args.steps.now c.args.kind a (row c.args.sets.now a)) c.loop-a.a c.loop-a.invariant
    (subst (λ s. IsRowDone c.args.given.now.facts.now c.args.steps.now c.args.kind c.loop-a.a s) c.row_at.ensures here)

pub returns-in-Some : goal.returns-in-Some
returns-in-Some c = rw c.in-Some.is at c.in_ok-found.ensures

pub returns : goal.returns
returns c = λ a lt. c.loop-a.invariant a (omega (arith, lt, c.loop-a-test.false))
