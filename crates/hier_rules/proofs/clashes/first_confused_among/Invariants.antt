use Rattle.std.proofs.Common.{◌≡◌, None, length}
use Rattle.kaba_bits.specs.Sets.{first_below}
use Rattle.hier_rules.specs.Names.{confused}
use Rattle.hier_rules.proofs.clashes.first_confused_among.Given as goal

abbrev pub invariant-loop-n : goal.invariant-loop-n
invariant-loop-n l = first_below l.n (λ n. first_below (length l.asked.facts.now.columns.items) (confused l.asked.facts.now l.asked.hier.now n)) ≡ None
