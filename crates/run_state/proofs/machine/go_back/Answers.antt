use Rattle.std.proofs.Common.{◌-◌, arith}
use Rattle.run_state.proofs.Moves.{went_back}
use Rattle.run_state.proofs.machine.go_back.Goals as goal

pub returns : goal.returns
returns c =
    let m = c.args.m.now in
    went_back m c.args.many (m.left - 1) _ (omega (arith, c.if-m-eq0.false)) c.saturating_sub-m.ensures
