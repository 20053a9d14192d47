use Rattle.std.proofs.Common.{length}
use Rattle.java_lex.proofs.scan.+begins.Given as goal

abbrev pub decreases-begins : goal.decreases-begins
decreases-begins l = length l.rest.now
