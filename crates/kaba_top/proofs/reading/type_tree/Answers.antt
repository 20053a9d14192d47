use Rattle.java_tree.specs.Syntax.{tree_of}
use Rattle.kaba_top.proofs.Texts.{resolved_as, unresolved}
use Rattle.kaba_top.proofs.reading.type_tree.Goals as goal

pub returns-in-Ok : goal.returns-in-Ok
returns-in-Ok c = record {
  reading = resolved_as (tree_of c.args.tree.now) c.in-Ok.program c.type_program.result
      (record { resolves = c.in-Ok.ensures.resolves; none = c.in-Ok.ensures.no_condition; formed = c.in-Ok.ensures.formed })
      c.type_program.ensures.reading;
}

pub returns-in_ok-not_resolved-in-Err : goal.returns-in_ok-not_resolved-in-Err
returns-in_ok-not_resolved-in-Err c =
    record {
      reading = unresolved (tree_of c.args.tree.now) c.in-Err.refusal c.in_ok-not_resolved-in-Err.field-0 c.in-Err.ensures.refused
          c.in_ok-not_resolved-in-Err.ensures;
    }
