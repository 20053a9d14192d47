use Rattle.std.proofs.Common.{◌+◌, sym, ◌∙◌}
use Rattle.java_core.specs.Statics.{string_seen}
use Rattle.java_heap.specs.Seen.{value_of}
use Rattle.run_state.specs.Run.{state_of}
use Rattle.run_state.proofs.Branches.{some_is}
use Rattle.run_machine.proofs.Lists.{taken_one, too_many}
use Rattle.run_machine.proofs.string_calls.called.Goals as goal

pub returns-in-Some-get : goal.returns-in-Some-get
returns-in-Some-get c =
    let m = c.args.m.now in
    λ k. some_is _ _ _ _ (sym c.in-Some.ensures.value)
    ∙ some_is _ _ _ _ (taken_one m.slots (m.base + c.args.frame.slot + 1) c.args.frame.many (value_of c.in-Some-get.argument) c.if-frame-eq1.true
    c.in-Some-get.ensures)
    ∙ c.call_with.ensures (state_of m) k

pub returns-else-frame-eq1 : goal.returns-else-frame-eq1
returns-else-frame-eq1 c =
    let m = c.args.m.now in
    λ k. some_is _ _ _ _ (sym c.in-Some.ensures.value)
    ∙ too_many (string_seen c.args.method) c.in-Some.units.now.items m.slots (m.base + c.args.frame.slot + 1) c.args.frame.many
    (state_of m) k c.if-frame-eq0.false c.if-frame-eq1.false
