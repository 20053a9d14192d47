use Rattle.std.proofs.Common.{length, []}
use Rattle.java_tree.specs.Syntax.{decls}
use Rattle.java_parse.specs.Want.{NDecls}
use Rattle.java_parse.specs.Reading.{Reads}
use Rattle.java_parse.proofs.GoesOn.{GoesOn}
use Rattle.java_parse.proofs.decl.all_decls.Given as goal

abbrev pub invariant-more : goal.invariant-more
invariant-more l = GoesOn (Reads (NDecls (decls l.all.items))) (Reads (NDecls [])) l.rest l.fn.tokens

abbrev pub decreases-more : goal.decreases-more
decreases-more l = length l.rest
