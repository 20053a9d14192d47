use Rattle.std.proofs.Common.{◌+◌, ◌<◌, ◌≤◌, length, ap, sym, ◌∙◌, arith}
use Rattle.run_code.specs.Machine.{goes}
use Rattle.run_state.specs.Run.{state_of, config_of}
use Rattle.run_state.proofs.Turned.{turned}
use Rattle.run_state.proofs.Branches.{some_is, none_is}
use Rattle.run_machine.proofs.Lists.{there_in, past_in, set_in}
use Rattle.run_machine.proofs.effects.write_static.Goals as goal

pub returns-then-field-len : goal.returns-then-field-len
returns-then-field-len c =
    let m = c.args.m.now in
    let lt : c.args.field < length m.statics.items = omega arith in
    turned _ _ _ _ _ _ _ _ c.next.ensures (λ go. some_is _ _ _ _ (sym c.in-Some.ensures.value) ∙ some_is _ _ _ _ (there_in m.statics.items c.args.field lt)
    ∙ ap (λ l. go (goes (config_of m) (m.pc + 1) (record (state_of m) { statics = l })))
    (sym (set_in m.statics.items c.args.field c.convert.result _ c.convert.ensures.value)))

pub returns-else-field-len : goal.returns-else-field-len
returns-else-field-len c =
    let m = c.args.m.now in
    let le : length m.statics.items ≤ c.args.field = omega arith in
    record { stop = λ go. some_is _ _ _ _ (sym c.in-Some.ensures.value) ∙ none_is _ _ _ (past_in m.statics.items c.args.field le); fewer = omega arith }
