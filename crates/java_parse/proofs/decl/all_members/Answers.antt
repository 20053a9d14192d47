use Rattle.std.proofs.Common.{List, sym, subst, arith, rules}
use Rattle.java_parse.specs.Want.{NMembers}
use Rattle.java_parse.specs.Reading.{Reads}
use Rattle.java_tree.specs.Syntax.{MemberTree}
use Rattle.java_parse.proofs.Pushed.{pushed_member}
use Rattle.java_parse.proofs.DeclarationSteps.{members_next, members_end}
use Rattle.java_parse.proofs.decl.all_members.Goals as goal

pub returns-in-Some-clause-reads : goal.returns-in-Some-clause-reads
returns-in-Some-clause-reads c = c.more.invariant.so_far _ (members_end (sym c.in-Some.ensures.value))

pub more-preserved : goal.more-preserved
more-preserved c = record {
  so_far = λ o h. c.more.invariant.so_far o (members_next (search rules) c.in_ok-next.ensures.reads
      (subst (λ (xs : List MemberTree). Reads (NMembers xs) c.in_ok-next.after.now o) (pushed_member _ _ _ c.in_ok-push.ensures.items) h));
  shorter = omega (arith, c.in_ok-next.ensures.shorter);
}
