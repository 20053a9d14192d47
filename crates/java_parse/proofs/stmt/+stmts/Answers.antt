use Rattle.std.proofs.Common.{Ok, sym, subst, arith, rules}
use Rattle.java_tree.specs.Syntax.{Arms, Statements, no_else, otherwise, arms_seen, stmts, expr_of, stmt_of}
use Rattle.java_tree.specs.Statements.{as_body}
use Rattle.java_parse.specs.Front.{arm_snoc}
use Rattle.java_parse.specs.Want.{NItems, NBranches}
use Rattle.java_parse.specs.Reading.{Reads}
use Rattle.java_parse.proofs.Pushed.{pushed_stmt, pushed_arm}
use Rattle.java_parse.proofs.StatementSteps.{items_end, items_next, branches_end, branches_again, branches_again_fails2, branches_other}
use Rattle.java_parse.proofs.stmt.+stmts.Goals as goal

pub items-returns-in-Some-clause-reads : goal.items-returns-in-Some-clause-reads
items-returns-in-Some-clause-reads t c = c.more.invariant.so_far _ (items_end (sym c.in-Some.ensures.value))

pub items-more-preserved : goal.items-more-preserved
items-more-preserved t c = record {
  so_far = λ o h. c.more.invariant.so_far o (items_next (search rules) c.in_ok-next.ensures.reads
      (subst (λ (ss : Statements). Reads (NItems ss) c.in_ok-next.after.now o) (pushed_stmt _ _ _ c.in_ok-push.ensures.items) h));
  shorter = omega (arith, c.in_ok-next.ensures.shorter);
}

pub branches-returns-in-Err-clause-reads : goal.branches-returns-in-Err-clause-reads
branches-returns-in-Err-clause-reads t c = c.arms.invariant.so_far _ (branches_again_fails2 c.in_ok-test.ensures.reads c.in-Err.ensures.reads)

pub branches-returns-in_default-clause-reads : goal.branches-returns-in_default-clause-reads
branches-returns-in_default-clause-reads t c = c.arms.invariant.so_far _
    (subst (λ (a : Arms). Reads (NBranches (arms_seen c.arms.arms.items)) c.arms.rest.now (Ok ((a, no_else), c.in-Ok.read.1.now)))
    (sym (pushed_arm _ _ _ _ _ c.in_ok-push.ensures.items c.in_ok-next.ensures.test c.in_ok-next.ensures.body))
    (branches_end c.in_ok-test.ensures.reads c.in-Ok.ensures.reads (search rules)))

pub branches-returns-in_default-key_at-clause-reads : goal.branches-returns-in_default-key_at-clause-reads
branches-returns-in_default-key_at-clause-reads t c = c.arms.invariant.so_far _
    (subst (λ (a : Arms). Reads (NBranches (arms_seen c.arms.arms.items)) c.arms.rest.now
    (Ok ((a, otherwise (stmts c.in_ok-other.other.items)), c.in_ok-whole.end.now)))
    (sym (pushed_arm _ _ _ _ _ c.in_ok-push.ensures.items c.in_ok-next.ensures.test c.in_ok-next.ensures.body))
    (subst (λ (b : Statements). Reads (NBranches (arms_seen c.arms.arms.items)) c.arms.rest.now
    (Ok (
      (arm_snoc (arms_seen c.arms.arms.items) (expr_of c.in_ok-test.test) (as_body (stmt_of c.in-Ok.read.0)), otherwise b),
      c.in_ok-whole.end.now,
    ))) (sym c.in_ok-other.ensures.value)
    (branches_other c.in_ok-test.ensures.reads c.in-Ok.ensures.reads (sym c.in-Some.ensures.value) (search rules) c.in_ok-whole.ensures.reads)))

pub branches-arms-preserved : goal.branches-arms-preserved
branches-arms-preserved t c = record {
  so_far = λ o h. c.arms.invariant.so_far o (branches_again c.in_ok-test.ensures.reads c.in-Ok.ensures.reads (sym c.in-Some.ensures.value)
      (sym c.in-Some-key_at.ensures.value) (subst (λ (a : Arms). Reads (NBranches a) c.in-Some-key_at.again.now o)
      (pushed_arm _ _ _ _ _ c.in_ok-push.ensures.items c.in_ok-next.ensures.test c.in_ok-next.ensures.body) h));
  shorter = omega (arith, c.in-Some-key_at.ensures.shorter, c.in-Some.ensures.shorter, c.in-Ok.ensures.shorter, c.in_ok-test.ensures.shorter);
}
