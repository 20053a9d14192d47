use Rattle.std.proofs.Common.{length, []}
use Rattle.java_parse.specs.Want.{NMods}
use Rattle.java_parse.specs.Reading.{Reads}
use Rattle.java_parse.proofs.GoesOn.{GoesOn}
use Rattle.java_parse.proofs.decl.modifiers.Given as goal

abbrev pub invariant-more : goal.invariant-more
invariant-more l = GoesOn (Reads (NMods l.all.items)) (Reads (NMods [])) l.rest l.fn.tokens

abbrev pub decreases-more : goal.decreases-more
decreases-more l = length l.rest
