use Rattle.run_state.proofs.StartLemmas.{first_slots_are}
use Rattle.run_state.proofs.starts.first_slots.Goals as goal

pub returns : goal.returns
returns c = first_slots_are c.new-slots.result c.put.new.self c.put-2.new.self c.new-slots.ensures c.in_ok-put.ensures c.in_ok-put-2.ensures
