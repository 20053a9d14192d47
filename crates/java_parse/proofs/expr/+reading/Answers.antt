use Rattle.std.proofs.Common.{List, sym, subst, arith, rules}
use Rattle.java_tree.specs.Syntax.{Expressions, exprs}
use Rattle.java_tree.specs.declared.Expr.{Expr}
use Rattle.java_parse.specs.Want.{NMoreArgs}
use Rattle.java_parse.specs.Reading.{Reads}
use Rattle.java_parse.specs.Front.{expr_snoc}
use Rattle.java_parse.proofs.Pushed.{pushed_expr}
use Rattle.java_parse.proofs.ExpressionSteps.{prefixed_cast_fails, args_some, args_some_fails, more_args_next, more_args_next_fails, more_args_end, more_args_open, more_operator_fails, more_no_class}
use Rattle.java_parse.proofs.expr.+reading.Goals as goal

pub args-more-init : goal.args-more-init
args-more-init t c = record {
  so_far = λ e us o a b. args_some (search rules) a
      (subst (λ (es : List Expr). Reads (NMoreArgs (expr_snoc (exprs es) e)) us o) c.new-all.ensures.items b);
  fails = λ f a. args_some_fails (search rules) a;
  shorter = omega arith;
}

pub args-more-preserved : goal.args-more-preserved
args-more-preserved t c = record {
  so_far = λ e us o a b. c.more.invariant.so_far _ _ o c.in_ok-next.ensures.reads (more_args_next (search rules) (sym c.in-Some-mark_at-2.ensures.value) a
      (subst (λ (es : Expressions). Reads (NMoreArgs (expr_snoc es e)) us o) (pushed_expr _ _ _ c.in_ok-push.ensures.items) b));
  fails = λ f a. c.more.invariant.so_far _ _ _ c.in_ok-next.ensures.reads (more_args_next_fails (search rules) (sym c.in-Some-mark_at-2.ensures.value) a);
  shorter = omega (arith, c.in_ok-next.ensures.shorter, c.in-Some-mark_at-2.ensures.shorter);
}

pub args-returns-in-Some-mark_at-clause-reads : goal.args-returns-in-Some-mark_at-clause-reads
args-returns-in-Some-mark_at-clause-reads t c = c.more.invariant.so_far _ _ _ c.in_ok-next.ensures.reads
    (rw (← pushed_expr _ _ _ c.in_ok-push.ensures.items) (more_args_end (sym c.in-Some-mark_at.ensures.value)))

pub args-returns-in_default-mark_at-2-clause-reads : goal.args-returns-in_default-mark_at-2-clause-reads
args-returns-in_default-mark_at-2-clause-reads t c = c.more.invariant.so_far _ _ _ c.in_ok-next.ensures.reads
    (more_args_open (search rules) (search rules))

pub prefixed-returns-in-Err-clause-reads : goal.prefixed-returns-in-Err-clause-reads
prefixed-returns-in-Err-clause-reads t c =
    prefixed_cast_fails (search rules) (search rules) (search rules) (sym c.in-Some-cast_at.ensures.value) c.in-Err.ensures.reads

pub more-returns-in-Err-clause-reads : goal.more-returns-in-Err-clause-reads
more-returns-in-Err-clause-reads t c = more_operator_fails (sym c.in-Some.ensures.value) c.level_of-level.ensures.value c.in-Err.ensures.reads

pub more-returns-in_default-word_at-clause-reads : goal.more-returns-in_default-word_at-clause-reads
more-returns-in_default-word_at-clause-reads t c = more_no_class (search rules) (sym c.in-Some-instance_at.ensures.value) (search rules)
