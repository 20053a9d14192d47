use Rattle.std.proofs.Common.{◌≡◌, None}
use Rattle.kaba_bits.specs.Sets.{first_below}
use Rattle.hier_rules.specs.Obligations.{wrong_need}
use Rattle.hier_rules.specs.Asked.{slots_of}
use Rattle.hier_rules.proofs.touched.first_wrong_need_among.Given as goal

abbrev pub invariant-loop-s : goal.invariant-loop-s
invariant-loop-s l = first_below l.s (λ s. first_below (slots_of l.asked.facts.now) (wrong_need l.asked.facts.now l.asked.pt.now l.asked.hier.now s)) ≡ None
