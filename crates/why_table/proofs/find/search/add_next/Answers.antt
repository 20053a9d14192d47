use Rattle.std.proofs.Common.{List, subst}
use Rattle.why_table.specs.Search.{AreAllDone}
use Rattle.why_table.specs.declared.trail.WhyStep.{WhyStep}
use Rattle.why_table.proofs.SearchLemmas.{complete}
use Rattle.why_table.proofs.find.search.add_next.Goals as goal

pub unreachable-requires : goal.unreachable-requires
unreachable-requires c =
    let g = c.args.given.now in
    let here = rw c.in-None.is at c.in_ok-step.ensures in
    let all = subst (λ (l : List WhyStep). AreAllDone g.facts.now l g.pt.now g.table.now) c.as_slice.ensures.value here in
    c.requires.absent
    (complete g.facts.now g.pt.now g.table.now c.requires.given.sets c.requires.given.table c.requires.given.accesses c.args.steps.now.items all c.args.r c.args.c
    c.requires.entry.entry)
