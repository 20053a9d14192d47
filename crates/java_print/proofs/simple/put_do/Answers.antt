use Rattle.java_tree.specs.Syntax.{expr_of}
use Rattle.java_print.proofs.Adding.{on_ok}
use Rattle.java_print.proofs.StmtAdding.{puts_printing, puts_other, puts_call}
use Rattle.java_print.proofs.simple.put_do.Goals as goal

pub returns-then-is_printing : goal.returns-then-is_printing
returns-then-is_printing c = record {
  value = on_ok c.put_bracketed.result c.put_bracketed.ensures.value (puts_printing (expr_of c.args.call.now) _ c.in-Some.args.now
      c.in-Some.ensures.value c.is_printing.ensures.value c.if-is_printing.true);
}

pub returns-else-is_printing : goal.returns-else-is_printing
returns-else-is_printing c = record {
  value = on_ok c.put_expr.result c.put_expr.ensures.value (puts_other (expr_of c.args.call.now) _ c.in-Some.args.now
      c.in-Some.ensures.value c.is_printing.ensures.value c.if-is_printing.false);
}

pub returns-in-None : goal.returns-in-None
returns-in-None c = record {
  value = on_ok c.put_expr-in-None.result c.put_expr-in-None.ensures.value (puts_call (expr_of c.args.call.now) c.in-None.ensures.value);
}
