use Rattle.std.proofs.Common.{◌≡◌, ℕ, ◌≤◌, ◌<◌, ◌-◌, ◌||◌, not, true, false, length}
use Rattle.kaba_bits.specs.Sets.{bit}
use Rattle.hier_model.specs.Hierarchies.{is_offered}
use Rattle.hier_rules.specs.Obligations.{place_of_site, has_nearer}
use Rattle.hier_rules.proofs.touched.has_wrong_need.Given as goal

abbrev pub invariant-scan : goal.invariant-scan
invariant-scan l = record {
  below : l.at ≤ length l.needs;
  none : (k : ℕ) → k < l.at → bit l.needs k ≡ true → (not (is_offered l.asked.hier.now (place_of_site l.asked.facts.now l.asked.hier.now l.s) k)
      || has_nearer l.asked.facts.now l.asked.hier.now (place_of_site l.asked.facts.now l.asked.hier.now l.s) k) ≡ false;
}

abbrev pub decreases-scan : goal.decreases-scan
decreases-scan l = length l.needs - l.at
