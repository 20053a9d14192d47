use Rattle.std.proofs.Common.{◌≡◌, ℕ, ◌<◌, ◌-◌, true}
use Rattle.kaba_bits.specs.Sets.{bit, IsSubset}
use Rattle.points_to.specs.Rounds.{IsGathered, IsWhole}
use Rattle.points_to.proofs.reads.gather.Given as goal

abbrev pub invariant-scan : goal.invariant-scan
invariant-scan l = record {
  gathered : IsGathered l.given.facts.now l.union;
  member : l.union.member ≡ l.fn.union.member;
  within : IsSubset l.union.sites l.set;
  all : (o : ℕ) → o < l.at → bit l.set o ≡ true → bit l.union.sites o ≡ true;
  whole : IsWhole l.given.facts.now l.sets l.fn.union → IsWhole l.given.facts.now l.sets l.union;
}

abbrev pub decreases-scan : goal.decreases-scan
decreases-scan l = l.width - l.at
