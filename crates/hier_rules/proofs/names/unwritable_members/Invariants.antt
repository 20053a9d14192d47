use Rattle.std.proofs.Common.{◌≡◌, true}
use Rattle.kaba_bits.specs.Sets.{ListsBelow}
use Rattle.hier_rules.specs.Namesakes.{is_unwritable_member}
use Rattle.hier_rules.proofs.names.unwritable_members.Given as goal

abbrev pub invariant-loop-c : goal.invariant-loop-c
invariant-loop-c l = ListsBelow (λ c. is_unwritable_member l.asked.facts.now l.asked.hier.now c ≡ true) l.c l.list.items
