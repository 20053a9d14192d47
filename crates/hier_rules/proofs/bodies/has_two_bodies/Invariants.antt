use Rattle.std.proofs.Common.{◌≡◌, None, length}
use Rattle.kaba_bits.specs.Sets.{first_below}
use Rattle.hier_rules.specs.Obligations.{two_bodies}
use Rattle.hier_rules.proofs.bodies.has_two_bodies.Given as goal

abbrev pub invariant-loop-c : goal.invariant-loop-c
invariant-loop-c l = first_below l.c (λ c. first_below (length l.asked.facts.now.columns.items) (two_bodies l.asked.facts.now l.asked.hier.now l.n c)) ≡ None
