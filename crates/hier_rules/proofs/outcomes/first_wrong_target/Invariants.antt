use Rattle.std.proofs.Common.{◌≡◌, None, length}
use Rattle.kaba_bits.specs.Sets.{first_below}
use Rattle.hier_rules.specs.Obligations.{wrong_outcome}
use Rattle.hier_rules.proofs.outcomes.first_wrong_target.Given as goal

abbrev pub invariant-loop-t : goal.invariant-loop-t
invariant-loop-t l = first_below l.t (λ t. first_below (length l.asked.facts.now.sites.items)
    (wrong_outcome l.asked.facts.now l.asked.pt.now l.asked.hier.now l.p t)) ≡ None
