use Rattle.std.proofs.lemmas.List.Elements.{All-contains}
use Rattle.points_to.specs.Work.{IsEdge}
use Rattle.points_to.proofs.turns.pass_all.Goals as goal

pub pass-requires-clause-edge : goal.pass-requires-clause-edge
pass-requires-clause-edge c = All-contains (IsEdge c.args.given.now.facts.now) c.args.given.now.found.now.edges.items c.in-Some.edge
    c.requires.given.found.edges
    (rw c.deref.ensures.value at c.in-Some.ensures)
