use Rattle.std.proofs.Common.{◌*◌, ◌-◌, length}
use Rattle.kaba_bits.specs.Sets.{total}
use Rattle.points_to.specs.Sound.{AreSound}
use Rattle.points_to.proofs.run_rounds.Given as goal

abbrev pub invariant-loop-more : goal.invariant-loop-more
invariant-loop-more l = AreSound l.given.facts.now l.sets

abbrev pub decreases-loop-more : goal.decreases-loop-more
decreases-loop-more l = length l.sets * length l.given.facts.now.sites.items - total l.sets
