use Rattle.std.proofs.Common.{◌≡◌, None}
use Rattle.kaba_bits.specs.Sets.{first_below}
use Rattle.hier_rules.specs.Names.{taken_type}
use Rattle.hier_rules.proofs.names.first_taken_type.Given as goal

abbrev pub invariant-loop-n : goal.invariant-loop-n
invariant-loop-n l = first_below l.n (taken_type l.asked.facts.now l.asked.hier.now) ≡ None
