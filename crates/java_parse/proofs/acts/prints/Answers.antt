use Rattle.std.proofs.Common.{◌∙◌}
use Rattle.java_tree.specs.Syntax.{expr_of}
use Rattle.java_parse.proofs.Printing.{prints_as, prints_none}
use Rattle.java_parse.proofs.acts.prints.Goals as goal

pub returns-in-Some : goal.returns-in-Some
returns-in-Some c = record {
  value = c.prints_line.ensures.value ∙ prints_as (expr_of c.args.call.now) _ c.in-Some.args.now c.in-Some.ensures.value;
}

pub returns-in-None : goal.returns-in-None
returns-in-None c = record { value = prints_none (expr_of c.args.call.now) c.in-None.ensures.value }
