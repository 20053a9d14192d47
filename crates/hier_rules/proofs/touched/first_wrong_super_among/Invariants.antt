use Rattle.std.proofs.Common.{◌≡◌, None, length}
use Rattle.kaba_bits.specs.Sets.{first_below}
use Rattle.hier_rules.specs.Obligations.{wrong_super}
use Rattle.hier_rules.proofs.touched.first_wrong_super_among.Given as goal

abbrev pub invariant-loop-r : goal.invariant-loop-r
invariant-loop-r l = first_below l.r (λ r. first_below (length l.asked.facts.now.columns.items) (wrong_super l.asked.facts.now l.asked.hier.now r)) ≡ None
