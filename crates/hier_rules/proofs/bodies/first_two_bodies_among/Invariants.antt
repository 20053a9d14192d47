use Rattle.std.proofs.Common.{◌≡◌, None, length}
use Rattle.kaba_bits.specs.Sets.{first_below}
use Rattle.hier_rules.specs.Obligations.{two_bodies}
use Rattle.hier_rules.proofs.bodies.first_two_bodies_among.Given as goal

abbrev pub invariant-loop-n : goal.invariant-loop-n
invariant-loop-n l = first_below l.n (λ n. first_below (length l.asked.facts.now.columns.items) (λ c. first_below (length l.asked.facts.now.columns.items)
    (two_bodies l.asked.facts.now l.asked.hier.now n c))) ≡ None
