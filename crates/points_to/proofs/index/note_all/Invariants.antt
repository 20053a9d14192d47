use Rattle.points_to.specs.Listed.{KeepNumbers, HaveItems}
use Rattle.points_to.proofs.index.note_all.Given as goal

abbrev pub invariant-loop-k : goal.invariant-loop-k
invariant-loop-k g l = record {
  kept : KeepNumbers l.fn.lists l.lists;
  here : HaveItems g.T.Belongs.belongs_to l.items.items l.lists l.k;
}
