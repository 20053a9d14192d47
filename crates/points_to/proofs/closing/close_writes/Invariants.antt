use Rattle.std.specs.Bool.{OnFalse}
use Rattle.std.specs.List.{AllWithin}
use Rattle.kaba_bits.specs.Sets.{IsStep}
use Rattle.points_to.specs.Sound.{AreSound}
use Rattle.points_to.specs.Rounds.{IsPending, IsDone}
use Rattle.points_to.proofs.closing.close_writes.Given as goal

abbrev pub invariant-loop-x : goal.invariant-loop-x
invariant-loop-x l = record {
  sets : AreSound l.given.facts.now l.sets;
  pending : IsPending l.given.facts.now l.pending;
  step : IsStep l.fn.sets l.sets l.grew;
  done : OnFalse l.grew (AllWithin (IsDone l.given.facts.now l.bases l.sets l.pending) l.writes 0 l.x-index);
}
