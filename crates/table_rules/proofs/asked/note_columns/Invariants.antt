use Rattle.std.proofs.Common.{ℕ, ◌<◌, length}
use Rattle.table_rules.specs.Asked.{AreRuleColumns, IsNoted}
use Rattle.table_rules.proofs.asked.note_columns.Given as goal

abbrev pub invariant-loop-d : goal.invariant-loop-d
invariant-loop-d l = record {
  columns : AreRuleColumns l.facts l.columns;
  here : (d : ℕ) → d < l.d → (c : ℕ) → c < length l.facts.columns.items
      → IsNoted l.facts l.columns.asked.items l.columns.hidden.items d c;
}
