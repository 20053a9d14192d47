use Rattle.std.proofs.Common.{subst}
use Rattle.concept_build.specs.Lists.{IsFaultOf}
use Rattle.kaba_top.proofs.BaseLemmas.{many_concepts, few_concepts}
use Rattle.kaba_top.proofs.base.base_reply.Goals as goal

pub returns-in-Ok : goal.returns-in-Ok
returns-in-Ok c = few_concepts c.args.facts.now c.in_ok-table.table c.in-Ok.lattice c.stems_reply.result c.in_ok-table.ensures c.in-Ok.ensures.lattice
    c.in-Ok.ensures.within c.stems_reply.ensures

pub returns-in-Err-TooManyConcepts : goal.returns-in-Err-TooManyConcepts
returns-in-Err-TooManyConcepts c =
    let table = c.in_ok-table.table in
    many_concepts c.args.facts.now table c.too_many_concepts.result c.in_ok-table.ensures
    (subst (IsFaultOf table.rows.items table.width 4096) c.in-Err-TooManyConcepts.field-0-is c.in-Err-TooManyConcepts.ensures.cause).1
    c.too_many_concepts.ensures
