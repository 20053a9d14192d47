use Rattle.std.proofs.Common.{◌≡◌, None}
use Rattle.kaba_bits.specs.Sets.{first_below}
use Rattle.hier_rules.specs.Obligations.{wrong_super}
use Rattle.hier_rules.proofs.bodies.first_wrong_super_of.Given as goal

abbrev pub invariant-loop-c : goal.invariant-loop-c
invariant-loop-c l = first_below l.c (wrong_super l.asked.facts.now l.asked.hier.now l.r) ≡ None
