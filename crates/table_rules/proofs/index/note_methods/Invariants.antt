use Rattle.std.proofs.Common.{◌≡◌, length}
use Rattle.table_rules.specs.Asked.{HaveMethods}
use Rattle.table_rules.proofs.index.note_methods.Given as goal

abbrev pub invariant-loop-c : goal.invariant-loop-c
invariant-loop-c l = record {
  count : length l.lists ≡ length l.facts.columns.items;
  here : HaveMethods l.facts l.lists l.c;
}
