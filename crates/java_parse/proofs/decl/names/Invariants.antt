use Rattle.std.proofs.Common.{length, []}
use Rattle.java_parse.specs.Want.{NIds}
use Rattle.java_parse.specs.Reading.{Reads}
use Rattle.java_parse.proofs.GoesOn.{GoesOn}
use Rattle.java_parse.proofs.decl.names.Given as goal

abbrev pub invariant-more : goal.invariant-more
invariant-more l = GoesOn (Reads (NIds l.all.items)) (Reads (NIds [])) l.rest l.fn.tokens

abbrev pub decreases-more : goal.decreases-more
decreases-more l = length l.rest
