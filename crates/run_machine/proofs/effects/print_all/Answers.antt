use Rattle.std.proofs.Common.{◌+◌, ap, sym}
use Rattle.run_code.specs.Machine.{goes}
use Rattle.run_state.specs.Run.{state_of, config_of}
use Rattle.run_state.proofs.Turned.{turned}
use Rattle.run_machine.proofs.effects.print_all.Goals as goal

pub returns : goal.returns
returns c =
    let m = c.args.m.now in
    turned _ _ _ _ _ _ _ _ c.next.ensures
    (λ go. ap (λ l. go (goes (config_of m) (m.pc + 1) (record (state_of m) { out = l }))) (sym c.in_ok-print.ensures.value))
