use Rattle.std.proofs.Common.{Contains, length, ◌+◌}
use Rattle.std.specs.List.{All, AllWithin}
use Rattle.fact_model.specs.Flowing.{IsCell}
use Rattle.points_to.specs.Work.{IsCellNode}
use Rattle.points_to.proofs.targets.add_cells.Given as goal

abbrev pub invariant-loop-c : goal.invariant-loop-c
invariant-loop-c l = record {
  sound : All (IsCellNode l.facts l.column l.o) l.list.items;
  here : AllWithin (λ c. IsCell l.facts c l.o l.column → Contains l.list.items (length l.facts.points.items + c)) l.cells 0 l.c-index;
}
