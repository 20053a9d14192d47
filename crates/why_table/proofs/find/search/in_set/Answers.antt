use Rattle.std.proofs.Common.{◌≡◌, true, below_more, arith}
use Rattle.kaba_bits.specs.Sets.{bit}
use Rattle.kaba_bits.proofs.SetLemmas.{bit-below}
use Rattle.why_table.specs.Search.{IsDone, claim_of}
use Rattle.why_table.proofs.find.search.in_set.Goals as goal

pub loop-b-preserved : goal.loop-b-preserved
loop-b-preserved c =
    let here = rw c.in_default.is at c.in_ok-found.ensures in
    below_more (λ b. bit c.args.set.now b ≡ true → IsDone c.args.given.now.facts.now c.args.steps.now (claim_of c.args.kind c.args.a b)) c.loop-b.b c.loop-b.invariant here

pub returns-in-Some : goal.returns-in-Some
returns-in-Some c = rw c.in-Some.is at c.in_ok-found.ensures

pub returns : goal.returns
returns c = λ b has. let low = bit-below c.args.set.now b has in c.loop-b.invariant b (omega (arith, low)) has
