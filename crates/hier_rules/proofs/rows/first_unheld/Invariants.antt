use Rattle.std.proofs.Common.{◌≡◌, None, length}
use Rattle.kaba_bits.specs.Sets.{first_below}
use Rattle.hier_rules.specs.Obligations.{unheld}
use Rattle.hier_rules.proofs.rows.first_unheld.Given as goal

abbrev pub invariant-loop-o : goal.invariant-loop-o
invariant-loop-o l = first_below l.o (λ o. first_below (length l.asked.facts.now.rows.items)
    (unheld l.asked.facts.now l.asked.pt.now l.asked.hier.now o)) ≡ None
