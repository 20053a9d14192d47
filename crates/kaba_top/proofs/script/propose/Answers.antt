use Rattle.std.proofs.Common.{inl, subst}
use Rattle.concept_build.specs.Lists.{IsFaultOf}
use Rattle.kaba_top.proofs.script.propose.Goals as goal

pub returns-in-Err-TooManyConcepts : goal.returns-in-Err-TooManyConcepts
returns-in-Err-TooManyConcepts c =
    let table = c.in_ok-table.table in
    record {
      proposed = inl (record {
        table = table;
        is = c.in_ok-table.ensures.table;
        many = record {
          more = (subst (IsFaultOf table.rows.items table.width c.args.task.now.bound) c.in-Err-TooManyConcepts.field-0-is
              c.in-Err-TooManyConcepts.ensures.cause).1;
          says = c.in_ok-too_many_concepts-in-Err-TooManyConcepts.ensures;
        };
      });
    }
