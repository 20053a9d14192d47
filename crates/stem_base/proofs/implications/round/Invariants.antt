use Rattle.stem_base.specs.Base.{all_sides}
use Rattle.stem_base.specs.Saturate.{IsRound}
use Rattle.stem_base.proofs.implications.round.Given as goal

abbrev pub invariant-loop-x : goal.invariant-loop-x
invariant-loop-x l = IsRound (all_sides l.base) l.x-index l.fn.set l.set l.grew
