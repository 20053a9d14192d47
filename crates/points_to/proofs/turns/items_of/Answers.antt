use Rattle.std.proofs.Common.{Contains}
use Rattle.std.proofs.lemmas.List.Elements.{All-push}
use Rattle.points_to.proofs.turns.items_of.Goals as goal
use Rattle.points_to.proofs.turns.items_of.Goals.{in-Some+in_ok-push, in_default}

pub loop-k-preserved : goal.loop-k-preserved
loop-k-preserved g c = elim c.match-item_at.branch [
  | in-Some+in_ok-push w ↦ rw (w.list-is, w.in_ok-push.ensures.items)
      (All-push (Contains c.args.from.now) c.loop-k.list.items w.in-Some.x c.loop-k.invariant w.in-Some.ensures)
  | in_default w ↦ rw w.list-is c.loop-k.invariant
]
