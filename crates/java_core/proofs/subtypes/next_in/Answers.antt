use Rattle.std.proofs.Common.{arith}
use Rattle.java_core.proofs.SquareLemmas.{next-in-row}
use Rattle.java_core.proofs.subtypes.next_in.Goals as goal

pub returns-then-width-gt0 : goal.returns-then-width-gt0
returns-then-width-gt0 c = next-in-row c.args.row.now c.args.b c.args.from (omega arith) c.next.result c.next.ensures
