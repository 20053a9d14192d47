use Rattle.java_heap.specs.Seen.{value_of}
use Rattle.run_state.proofs.Moves.{left_on}
use Rattle.run_machine.proofs.calls.leave.Goals as goal

pub returns-in_ok-put-in-Some : goal.returns-in_ok-put-in-Some
returns-in_ok-put-in-Some c =
    left_on c.args.m.now (value_of c.args.value) c.in-Some.back c.pop.new.self c.put.new.self c.in-Some.ensures c.in_ok-put-in-Some.ensures
