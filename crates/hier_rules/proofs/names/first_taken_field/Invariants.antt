use Rattle.std.proofs.Common.{◌≡◌, None, length}
use Rattle.kaba_bits.specs.Sets.{first_below}
use Rattle.hier_rules.specs.Names.{taken_field}
use Rattle.hier_rules.proofs.names.first_taken_field.Given as goal

abbrev pub invariant-loop-n : goal.invariant-loop-n
invariant-loop-n l = first_below l.n (λ n. first_below (length l.asked.facts.now.columns.items) (taken_field l.asked.facts.now l.asked.hier.now n)) ≡ None
