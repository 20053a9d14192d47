use Rattle.std.proofs.Common.{take}
use Rattle.std.specs.Prelude.{All}
use Rattle.sure_report.specs.Found.{IsBodyLeft}
use Rattle.sure_report.proofs.members.has_no_this.Given as goal

abbrev pub invariant-loop-b : goal.invariant-loop-b
invariant-loop-b l = All (IsBodyLeft l.pt l.c.0) (take l.b-index l.facts.bodies.items)
