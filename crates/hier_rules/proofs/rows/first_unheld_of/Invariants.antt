use Rattle.std.proofs.Common.{◌≡◌, None}
use Rattle.kaba_bits.specs.Sets.{first_below}
use Rattle.hier_rules.specs.Obligations.{unheld}
use Rattle.hier_rules.proofs.rows.first_unheld_of.Given as goal

abbrev pub invariant-loop-v : goal.invariant-loop-v
invariant-loop-v l = first_below l.v (unheld l.asked.facts.now l.asked.pt.now l.asked.hier.now l.o) ≡ None
