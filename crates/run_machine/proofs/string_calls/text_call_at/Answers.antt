use Rattle.std.proofs.Common.{◌+◌, ap, ◌∙◌}
use Rattle.std.specs.Prelude.{slice_get, false}
use Rattle.std.specs.Option.{option_map}
use Rattle.java_core.specs.Statics.{string_seen}
use Rattle.java_meaning.specs.Moment.{with_some}
use Rattle.java_meaning.specs.Meaning.{string_call}
use Rattle.run_code.specs.Machine.{taken}
use Rattle.run_state.specs.Turns.{to_slot}
use Rattle.run_state.specs.Run.{state_of}
use Rattle.run_state.proofs.Turned.{turned}
use Rattle.run_machine.proofs.string_calls.text_call_at.Goals as goal

pub returns-in-Some : goal.returns-in-Some
returns-in-Some c =
    let m = c.args.m.now in
    let s = state_of m in
    turned _ _ _ _ _ _ _ _ c.answer.ensures
    (λ go. ap (λ o. with_some (slice_get m.heap.strings c.args.at) s
    (λ u. with_some (option_map string_seen o) s
    (λ q. with_some (taken m.slots (m.base + c.args.frame.slot + 1) c.args.frame.many) s
    (λ vs. string_call q u vs s (to_slot m (record { is_int = false; slot = c.args.frame.slot }) go))))) c.in-Some.is
    ∙ c.called-found.ensures (to_slot m (record { is_int = false; slot = c.args.frame.slot }) go))
