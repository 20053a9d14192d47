use Rattle.std.proofs.Common.{length}
use Rattle.hier_rules.specs.Index.{is_needed, AreTestRows}
use Rattle.hier_rules.proofs.index.needs.Given as goal

abbrev pub invariant-loop-s : goal.invariant-loop-s
invariant-loop-s l = AreTestRows l.s (length l.asked.facts.now.columns.items) (is_needed l.asked.facts.now l.asked.pt.now) l.rows.items
