use Rattle.std.proofs.Common.{length}
use Rattle.java_parse.proofs.expr.+dims.Given as goal

abbrev pub decreases-dims : goal.decreases-dims
decreases-dims l = length l.tokens.now
