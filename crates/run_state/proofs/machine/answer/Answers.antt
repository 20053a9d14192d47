use Rattle.std.proofs.Common.{ap}
use Rattle.run_state.specs.Turns.{to_slot}
use Rattle.run_state.specs.Run.{state_of}
use Rattle.run_state.specs.Founds.{gives}
use Rattle.run_state.proofs.Turned.{turned}
use Rattle.run_state.proofs.machine.answer.Goals as goal

pub returns-in-Value : goal.returns-in-Value
returns-in-Value c =
    let m = c.args.m.now in
    turned _ _ _ _ _ _ _ _ c.keep.ensures (λ go. ap (λ f. gives f (state_of m) (to_slot m c.args.to go)) c.in-Value.is)
