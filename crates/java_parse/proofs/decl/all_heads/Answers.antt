use Rattle.std.proofs.Common.{List, sym, subst, arith, rules}
use Rattle.java_parse.specs.Want.{NHeads}
use Rattle.java_parse.specs.Reading.{Reads}
use Rattle.java_tree.specs.Syntax.{HeadTree}
use Rattle.java_parse.proofs.Pushed.{pushed_head}
use Rattle.java_parse.proofs.DeclarationSteps.{heads_next, heads_end, heads_open}
use Rattle.java_parse.proofs.decl.all_heads.Goals as goal

pub returns-in-Some-clause-reads : goal.returns-in-Some-clause-reads
returns-in-Some-clause-reads c = c.more.invariant.so_far _ (heads_end (sym c.in-Some.ensures.value))

pub returns-in_default-mark_at-clause-reads : goal.returns-in_default-mark_at-clause-reads
returns-in_default-mark_at-clause-reads c = c.more.invariant.so_far _ (heads_open (search rules) c.in_ok-next.ensures.reads (search rules))

pub more-preserved : goal.more-preserved
more-preserved c = record {
  so_far = λ o h. c.more.invariant.so_far o (heads_next (search rules) c.in_ok-next.ensures.reads (sym c.in-Some-mark_at.ensures.value)
      (subst (λ (xs : List HeadTree). Reads (NHeads xs) c.in-Some-mark_at.after.now o) (pushed_head _ _ _ c.in_ok-push.ensures.items) h));
  shorter = omega (arith, c.in_ok-next.ensures.shorter, c.in-Some-mark_at.ensures.shorter);
}
