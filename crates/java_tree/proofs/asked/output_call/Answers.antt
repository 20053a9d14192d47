use Rattle.std.proofs.Common.{ap, sym, ◌∙◌}
use Rattle.java_tree.specs.declared.Expr.{Expr}
use Rattle.java_tree.specs.Syntax.{expr_of}
use Rattle.java_tree.specs.Statements.{is_out}
use Rattle.java_tree.proofs.Outputs.{output_upon}
use Rattle.java_tree.proofs.asked.output_call.Goals as goal

pub returns-then-is_output : goal.returns-then-is_output
returns-then-is_output c = record {
  value = output_upon c.in-Call.args c.as_slice.result.now c.in-Call.is c.in-Some.is
      (ap (λ (e : Expr). is_out (expr_of e)) (sym c.deref.ensures) ∙ sym c.is_output.ensures.value ∙ c.if-is_output.true) c.as_slice.ensures.value;
}
