use Rattle.std.proofs.Common.{ap}
use Rattle.run_state.specs.Turns.{to_slot}
use Rattle.run_state.specs.Run.{state_of}
use Rattle.run_state.specs.Founds.{makes}
use Rattle.run_state.proofs.Turned.{turned}
use Rattle.run_state.proofs.machine.settle.Goals as goal

pub returns-in-Value : goal.returns-in-Value
returns-in-Value c =
    let m = c.args.m.now in
    turned _ _ _ _ _ _ _ _ c.keep.ensures (λ go. ap (λ f. makes f (state_of m) (to_slot m c.args.to go)) c.in-Value.is)

pub returns-in-Text : goal.returns-in-Text
returns-in-Text c =
    let m = c.args.m.now in
    turned _ _ _ _ _ _ _ _ c.new_string.ensures (λ go. ap (λ f. makes f (state_of m) (to_slot m c.args.to go)) c.in-Text.is)
