use Rattle.std.proofs.Common.{rules}
use Rattle.run_compile.proofs.Lists.{count_all}
use Rattle.run_compile.proofs.operands.count.Goals as goal

pub returns : goal.returns
returns c = let e = count_all c.args.args.now.items in search rules
