use Rattle.std.proofs.Common.{subst}
use Rattle.java_core.specs.Programs.{program_of}
use Rattle.flow_rules.specs.Facts.{AreNamesOf, IsFactsOf, IsWithinLimits}
use Rattle.flow_laws.proofs.order.Order.{in_range, in_order}
use Rattle.sure_laws.proofs.FactSpots.{spots_in_range}
use Rattle.flow_program.proofs.Covering.{covering, solved_cover, meeting}
use Rattle.flow_program.proofs.facts.Goals as goal

pub returns-then-are_numbered-clause-ok : goal.returns-then-are_numbered-clause-ok
returns-then-are_numbered-clause-ok c =
    let P = program_of c.args.program.now in
    let F = c.in-Ok.facts in
    let e = c.program-plain.ensures.value in
    let formed = c.program-plain.ensures.formed in
    let typed = c.program-plain.ensures.typed in
    let few = c.are_numbered.ensures.0 c.if-are_numbered.true in
    let is : IsFactsOf P F = subst (λ q. IsFactsOf (program_of q) F) e c.in-Ok.ensures.ok in
    let within : IsWithinLimits P = subst (λ q. IsWithinLimits (program_of q)) e c.in-Ok.ensures.within in
    let covers = covering P F formed typed is in
    let named : AreNamesOf P F = subst (λ q. AreNamesOf (program_of q) F) e c.in-Ok.ensures.names in
    record {
      within = within;
      is = is;
      names = named;
      in_range = in_range P formed typed F is within.counts few.0 few.1;
      in_order = in_order P formed typed F is named;
      covers = covers;
      spots = spots_in_range P F is;
      solved = solved_cover P F covers;
      meets = meeting P F formed typed is;
    }
