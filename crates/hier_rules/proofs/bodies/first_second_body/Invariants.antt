use Rattle.std.proofs.Common.{◌≡◌, None}
use Rattle.kaba_bits.specs.Sets.{first_below}
use Rattle.hier_rules.specs.Obligations.{two_bodies}
use Rattle.hier_rules.proofs.bodies.first_second_body.Given as goal

abbrev pub invariant-loop-d : goal.invariant-loop-d
invariant-loop-d l = first_below l.d (two_bodies l.asked.facts.now l.asked.hier.now l.n l.c) ≡ None
