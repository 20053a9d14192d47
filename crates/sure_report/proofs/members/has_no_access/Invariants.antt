use Rattle.std.proofs.Common.{take}
use Rattle.std.specs.Prelude.{All}
use Rattle.sure_report.specs.Found.{IsAccessLeft}
use Rattle.sure_report.proofs.members.has_no_access.Given as goal

abbrev pub invariant-loop-a : goal.invariant-loop-a
invariant-loop-a l = All (IsAccessLeft l.pt l.c.0) (take l.a-index l.facts.accesses.items)
