use Rattle.std.proofs.Common.{◌+◌, ap}
use Rattle.run_code.specs.Machine.{goes}
use Rattle.run_state.specs.Run.{state_of, config_of}
use Rattle.run_state.proofs.Turned.{turned}
use Rattle.run_state.specs.Founds.{keeps}
use Rattle.run_machine.proofs.effects.done.Goals as goal

pub returns-in-Done : goal.returns-in-Done
returns-in-Done c =
    let m = c.args.m.now in
    turned _ _ _ _ _ _ _ _ c.next.ensures (λ go. ap (λ r. keeps r (state_of m) (go (goes (config_of m) (m.pc + 1) (state_of m)))) c.in-Done.is)
