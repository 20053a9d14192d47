use Rattle.std.proofs.Common.{◌≡◌, ℕ, ◌<◌, ◌-◌, true}
use Rattle.std.specs.Bool.{OnFalse}
use Rattle.kaba_bits.specs.Sets.{bit, IsStep}
use Rattle.points_to.specs.Sound.{AreSound}
use Rattle.points_to.specs.Rounds.{IsFlushedAt}
use Rattle.points_to.proofs.writes.flush.Given as goal

abbrev pub invariant-scan : goal.invariant-scan
invariant-scan l = record {
  sets : AreSound l.given.facts.now l.sets;
  step : IsStep l.fn.sets l.sets l.grew;
  closed : OnFalse l.grew ((o : ℕ) → o < l.at → bit l.pending.sites o ≡ true → IsFlushedAt l.given.facts.now l.sets l.pending o);
}

abbrev pub decreases-scan : goal.decreases-scan
decreases-scan l = l.width - l.at
