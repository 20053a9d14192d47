use Rattle.std.proofs.Common.{sym, arith}
use Rattle.hier_rules.proofs.NeedLemmas.{call_found, call_none}
use Rattle.hier_rules.proofs.bodies.first_wrong_call.Goals as goal

pub returns-in-Some : goal.returns-in-Some
returns-in-Some c =
    sym (call_found c.args.asked.now.facts.now c.args.asked.now.pt.now c.args.asked.now.hier.now c.args.s c.args.slots.now c.requires.sorted c.requires.slots
    c.loop-x.x-index c.in-Some.found (omega arith) c.loop-x.invariant (sym c.in-Some.ensures))

pub returns : goal.returns
returns c =
    sym (call_none c.args.asked.now.facts.now c.args.asked.now.pt.now c.args.asked.now.hier.now c.args.s c.args.slots.now c.requires.sorted c.requires.slots
    (λ j lt. c.loop-x.invariant j (omega arith)))
