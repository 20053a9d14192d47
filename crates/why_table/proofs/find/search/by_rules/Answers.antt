use Rattle.std.proofs.Common.{[], below_more, subst, arith}
use Rattle.why_table.specs.Search.{NoneUpTo, rule_at}
use Rattle.why_table.proofs.FindLemmas.{none_gives}
use Rattle.why_table.proofs.find.search.by_rules.Goals as goal

pub loop-k-preserved : goal.loop-k-preserved
loop-k-preserved c =
    let here = rw c.in_default.is at c.in_ok-found.ensures in
    below_more (λ k. NoneUpTo c.args.asked.now.facts.now c.args.asked.now.steps.now c.args.asked.now.claim (rule_at k) [] 3) c.loop-k.k c.loop-k.invariant
    (subst (λ r. NoneUpTo c.args.asked.now.facts.now c.args.asked.now.steps.now c.args.asked.now.claim r [] 3) c.rule_at.ensures here)

pub returns-in-Some : goal.returns-in-Some
returns-in-Some c = rw c.in-Some.is at c.in_ok-found.ensures

pub returns : goal.returns
returns c =
    none_gives c.args.asked.now.facts.now c.args.asked.now.steps.now c.args.asked.now.claim
    (λ k lt. c.loop-k.invariant k (omega (arith, lt, c.loop-k-test.false)))
