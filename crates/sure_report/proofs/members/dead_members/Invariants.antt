use Rattle.std.proofs.Common.{map}
use Rattle.kaba_bits.specs.Sets.{ListsBelow}
use Rattle.sure_report.specs.Report.{IsDead}
use Rattle.sure_report.proofs.members.dead_members.Given as goal

abbrev pub invariant-loop-c : goal.invariant-loop-c
invariant-loop-c l = ListsBelow (IsDead l.facts l.pt) l.c (map (λ c. c.0) l.dead.items)
