use Rattle.std.proofs.Common.{ℕ, ◌<◌}
use Rattle.table_rules.specs.Asked.{AreOpen, IsRowAsked}
use Rattle.table_rules.proofs.closing.ask_rows.Given as goal

abbrev pub invariant-loop-q : goal.invariant-loop-q
invariant-loop-q l = record {
  state : AreOpen l.given.facts.now l.asked l.both l.rows;
  asked : (k : ℕ) → k < l.q → IsRowAsked l.given.facts.now l.rows l.asked k;
}
