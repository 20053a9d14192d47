use Rattle.std.proofs.Common.{◌+◌, arith}
use Rattle.run_state.proofs.Moves.{passed_on}
use Rattle.run_state.proofs.machine.pass.Goals as goal

pub returns : goal.returns
returns c =
    let m = c.args.m.now in
    passed_on m (m.pc + 1 + c.args.many) (omega arith)
