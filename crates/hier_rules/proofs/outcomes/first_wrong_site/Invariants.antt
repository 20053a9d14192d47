use Rattle.std.proofs.Common.{◌≡◌, None}
use Rattle.kaba_bits.specs.Sets.{first_below}
use Rattle.hier_rules.specs.Obligations.{wrong_outcome}
use Rattle.hier_rules.proofs.outcomes.first_wrong_site.Given as goal

abbrev pub invariant-loop-s : goal.invariant-loop-s
invariant-loop-s l = first_below l.s (wrong_outcome l.asked.facts.now l.asked.pt.now l.asked.hier.now l.p l.t) ≡ None
