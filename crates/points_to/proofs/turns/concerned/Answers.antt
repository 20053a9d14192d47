use Rattle.std.proofs.Common.{Contains, rules}
use Rattle.std.proofs.lemmas.List.Elements.{All-push}
use Rattle.points_to.proofs.turns.concerned.Goals as goal
use Rattle.points_to.proofs.turns.concerned.Goals.{then-concerns+in_ok-push, else-concerns}

pub loop-x-preserved : goal.loop-x-preserved
loop-x-preserved c = elim c.if-concerns.branch [
  | then-concerns+in_ok-push w ↦ rw (w.list-is, w.in_ok-push.ensures.items)
      (All-push (Contains c.args.reads.now) c.loop-x.list.items _ c.loop-x.invariant (search rules))
  | else-concerns w ↦ rw w.list-is c.loop-x.invariant
]
