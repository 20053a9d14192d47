use Rattle.std.proofs.Common.{◌+◌, ap, ◌∙◌}
use Rattle.java_heap.specs.Seen.{value_of}
use Rattle.run_code.specs.Machine.{put}
use Rattle.run_state.proofs.Moves.{kept_on}
use Rattle.run_state.proofs.machine.keep.Goals as goal

pub returns : goal.returns
returns c =
    let m = c.args.m.now in
    kept_on m c.args.to.is_int c.args.to.slot (value_of c.args.value) c.put.new.self (c.in_ok-put.ensures
    ∙ ap (put m.slots (m.base + c.args.to.slot)) c.as_int.ensures)
