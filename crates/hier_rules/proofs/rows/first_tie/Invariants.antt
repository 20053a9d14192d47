use Rattle.std.proofs.Common.{◌≡◌, None, length}
use Rattle.kaba_bits.specs.Sets.{first_below}
use Rattle.hier_rules.specs.Obligations.{untied}
use Rattle.hier_rules.proofs.rows.first_tie.Given as goal

abbrev pub invariant-loop-l : goal.invariant-loop-l
invariant-loop-l l = first_below l.l (λ k. first_below (length l.asked.facts.now.rows.items) (untied l.asked.facts.now l.asked.hier.now k)) ≡ None
