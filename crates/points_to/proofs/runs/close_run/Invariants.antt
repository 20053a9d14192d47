use Rattle.std.proofs.Common.{◌≡◌, ℕ, ◌<◌, ◌-◌, true, length}
use Rattle.std.specs.Bool.{OnFalse}
use Rattle.kaba_bits.specs.Sets.{bit, IsStep}
use Rattle.points_to.specs.Sound.{AreSound}
use Rattle.points_to.specs.Rounds.{AreBegun}
use Rattle.points_to.proofs.runs.close_run.Given as goal

abbrev pub invariant-scan : goal.invariant-scan
invariant-scan l = record {
  sets : AreSound l.given.facts.now l.sets;
  width_is : length l.begun.sites ≡ length l.given.facts.now.sites.items;
  slot : l.begun.slot ≡ l.x.slot;
  step : IsStep l.fn.sets l.sets l.grew;
  begun : OnFalse l.grew (AreBegun l.given.facts.now l.fn.sets l.fn.begun → AreBegun l.given.facts.now l.sets l.begun);
  all : (o : ℕ) → o < l.at → bit l.set o ≡ true → bit l.begun.sites o ≡ true;
}

abbrev pub decreases-scan : goal.decreases-scan
decreases-scan l = l.width - l.at
