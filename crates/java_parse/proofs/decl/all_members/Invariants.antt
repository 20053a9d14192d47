use Rattle.std.proofs.Common.{length, []}
use Rattle.java_tree.specs.Syntax.{members}
use Rattle.java_parse.specs.Want.{NMembers}
use Rattle.java_parse.specs.Reading.{Reads}
use Rattle.java_parse.proofs.GoesOn.{GoesOn}
use Rattle.java_parse.proofs.decl.all_members.Given as goal

abbrev pub invariant-more : goal.invariant-more
invariant-more l = GoesOn (Reads (NMembers (members l.all.items))) (Reads (NMembers [])) l.rest l.fn.tokens

abbrev pub decreases-more : goal.decreases-more
decreases-more l = length l.rest
