use Rattle.std.proofs.Common.{List, subst, arith, true, false}
use Rattle.java_tree.specs.Syntax.{DeclTree}
use Rattle.java_parse.specs.Want.{NDecls}
use Rattle.java_parse.specs.Reading.{Reads}
use Rattle.java_parse.proofs.Pushed.{pushed_decl}
use Rattle.java_parse.proofs.Parsed.{at_end_by}
use Rattle.java_parse.proofs.DeclarationSteps.{decls_next, decls_end}
use Rattle.java_parse.proofs.decl.all_decls.Goals as goal

pub returns-then-is_empty : goal.returns-then-is_empty
returns-then-is_empty c = record { reads = c.more.invariant.so_far _ (decls_end (at_end_by c.more.rest.now _ true c.is_empty.ensures c.if-is_empty.true)) }

pub more-preserved : goal.more-preserved
more-preserved c = record {
  so_far = λ o h. c.more.invariant.so_far o (decls_next (at_end_by c.more.rest.now _ false c.is_empty.ensures c.if-is_empty.false)
      c.in_ok-next.ensures.reads (subst (λ (xs : List DeclTree). Reads (NDecls xs) c.in_ok-next.after.now o)
      (pushed_decl _ _ _ c.in_ok-push.ensures.items) h));
  shorter = omega (arith, c.in_ok-next.ensures.shorter);
}
