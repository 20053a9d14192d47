use Rattle.std.proofs.Common.{◌≡◌, ℕ, ◌&&◌, length}
use Rattle.std.specs.Prelude.{nat_lt}
use Rattle.kaba_bits.specs.Sets.{bit}
use Rattle.hier_rules.specs.Obligations.{place_of_site}
use Rattle.hier_rules.proofs.met.low_sites.Given as goal

abbrev pub invariant-loop-s : goal.invariant-loop-s
invariant-loop-s l = (length l.sites ≡ length l.asked.facts.now.sites.items)
    × ((x : ℕ) → bit l.sites x ≡ (nat_lt x l.s && bit l.low (place_of_site l.asked.facts.now l.asked.hier.now x)))
