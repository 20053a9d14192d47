use Rattle.std.proofs.Common.{ℕ, ◌<◌, ◌-◌}
use Rattle.table_rules.specs.Marks.{Grow}
use Rattle.table_rules.specs.Asked.{AreOpen, IsMetAt}
use Rattle.table_rules.proofs.closing.meet_row.Given as goal

abbrev pub invariant-scan : goal.invariant-scan
invariant-scan l = record {
  state : AreOpen l.given.facts.now l.asked l.both l.rows;
  grows : Grow l.fn.asked l.asked;
  met : (d : ℕ) → d < l.at → IsMetAt l.given.facts.now l.rows l.asked l.q d;
}

abbrev pub decreases-scan : goal.decreases-scan
decreases-scan l = l.width - l.at
