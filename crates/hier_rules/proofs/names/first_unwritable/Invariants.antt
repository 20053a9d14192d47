use Rattle.std.proofs.Common.{◌≡◌, None, length}
use Rattle.kaba_bits.specs.Sets.{first_below}
use Rattle.hier_rules.specs.Names.{unwritable_type, unwritable}
use Rattle.kaba_bits.specs.Sets.{or_else}
use Rattle.hier_rules.proofs.names.first_unwritable.Given as goal

abbrev pub invariant-loop-n : goal.invariant-loop-n
invariant-loop-n l = first_below l.n (λ n. or_else (unwritable_type l.asked.facts.now l.asked.hier.now n) (first_below (length l.asked.facts.now.columns.items)
    (unwritable l.asked.facts.now l.asked.hier.now n))) ≡ None
