use Rattle.std.specs.List.{All, AllWithin}
use Rattle.points_to.specs.Called.{IsCalledNode}
use Rattle.points_to.specs.Listed.{ListsBody}
use Rattle.points_to.proofs.targets.add_bodies.Given as goal

abbrev pub invariant-loop-b : goal.invariant-loop-b
invariant-loop-b l = record {
  sound : All (IsCalledNode l.facts l.x) l.list.items;
  here : AllWithin (ListsBody l.facts l.x.member l.x.column l.list.items) l.bodies 0 l.b-index;
}
