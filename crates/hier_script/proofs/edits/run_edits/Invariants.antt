use Rattle.std.proofs.Common.{drop}
use Rattle.hier_script.specs.Histories.{IsUnderWay}
use Rattle.hier_script.proofs.edits.run_edits.Given as goal

abbrev pub invariant-loop-line : goal.invariant-loop-line
invariant-loop-line l = IsUnderWay l.facts l.sets l.initial.hier l.lines (drop l.line-index l.lines) l.hier l.undos.items l.refusals.items
