use Rattle.std.proofs.Common.{ap}
use Rattle.run_code.specs.Ops.{act}
use Rattle.run_code.specs.Machine.{does}
use Rattle.run_code.specs.Seen.{effect_of}
use Rattle.run_state.specs.Run.{plain_of, config_of}
use Rattle.run_state.proofs.Turned.{turned}
use Rattle.run_machine.proofs.effects.act.Goals as goal

pub returns-in-ShowEnd : goal.returns-in-ShowEnd
returns-in-ShowEnd c =
    let m = c.args.m.now in
    λ T. turned _ _ _ _ _ _ _ _ c.print_all.ensures
    (λ go. ap (λ q. does (plain_of m) T (act (effect_of q)) (config_of m) go) c.in-ShowEnd.is)
