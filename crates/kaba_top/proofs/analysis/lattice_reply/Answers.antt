use Rattle.std.proofs.Common.{inr, refl, subst}
use Rattle.concept_build.specs.Lists.{IsFaultOf}
use Rattle.kaba_top.proofs.Analysing.{too_many}
use Rattle.kaba_top.proofs.analysis.lattice_reply.Goals as goal

pub returns-in-Ok : goal.returns-in-Ok
returns-in-Ok c = record {
  table = c.in_ok-table.table;
  is = c.in_ok-table.ensures;
  answers = inr (record {
    lattice = c.in-Ok.lattice;
    is = c.in-Ok.ensures.lattice;
    within = c.in-Ok.ensures.within;
    gives = record { status_is = refl; out_is = c.in_ok-show-in-Ok.ensures; err_is = c.new.ensures.items };
  });
}

pub returns-in-Err-TooManyConcepts : goal.returns-in-Err-TooManyConcepts
returns-in-Err-TooManyConcepts c =
    let table = c.in_ok-table.table in
    too_many c.args.json c.args.bound c.args.facts.now table c.too_many_concepts.result c.in_ok-table.ensures
    (subst (IsFaultOf table.rows.items table.width c.args.bound) c.in-Err-TooManyConcepts.field-0-is c.in-Err-TooManyConcepts.ensures.cause).1
    c.too_many_concepts.ensures
