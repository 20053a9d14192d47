use Rattle.std.proofs.Common.{◌+◌, ◌*◌, length}
use Rattle.java_tree.specs.Syntax.{stmts, arms_seen, no_statements, no_arms}
use Rattle.java_parse.specs.Want.{NItems, NBranches}
use Rattle.java_parse.specs.Reading.{Reads}
use Rattle.java_parse.proofs.GoesOn.{GoesOn}
use Rattle.java_parse.proofs.stmt.+stmts.Given as goal

abbrev pub decreases-item : goal.decreases-item
decreases-item l = 4 * length l.tokens.now + 1

abbrev pub decreases-items : goal.decreases-items
decreases-items l = 4 * length l.tokens.now + 2

abbrev pub invariant-items-more : goal.invariant-items-more
invariant-items-more l = GoesOn (Reads (NItems (stmts l.all.items))) (Reads (NItems no_statements)) l.rest l.fn.tokens

abbrev pub decreases-items-more : goal.decreases-items-more
decreases-items-more l = length l.rest

abbrev pub decreases-stmt : goal.decreases-stmt
decreases-stmt l = 4 * length l.tokens.now

abbrev pub decreases-branches : goal.decreases-branches
decreases-branches l = 4 * length l.tokens.now

abbrev pub invariant-branches-arms : goal.invariant-branches-arms
invariant-branches-arms l = GoesOn (Reads (NBranches (arms_seen l.arms.items))) (Reads (NBranches no_arms)) l.rest l.fn.tokens

abbrev pub decreases-branches-arms : goal.decreases-branches-arms
decreases-branches-arms l = length l.rest
