use Rattle.std.proofs.Common.{ap, sym, ◌∙◌}
use Rattle.run_code.specs.Machine.{returns}
use Rattle.run_state.specs.Run.{config_of}
use Rattle.run_state.proofs.Turned.{turned}
use Rattle.run_state.proofs.Branches.{some_is}
use Rattle.run_machine.proofs.calls.give.Goals as goal

pub returns-in-Some : goal.returns-in-Some
returns-in-Some c =
    let m = c.args.m.now in
    λ T. turned _ _ _ _ _ _ _ _ c.leave.ensures
    (λ go. some_is _ _ _ _ (sym c.in-Some.ensures) ∙ ap (λ v. returns (config_of m).backs v (config_of m) go) (sym c.as_int.ensures))
