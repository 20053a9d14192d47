use Rattle.std.proofs.Common.{◌<◌, length}
use Rattle.std.specs.List.{AllWithin}
use Rattle.table_rules.specs.Asked.{IsColumnStep, IsNoted}
use Rattle.table_rules.proofs.asked.note_each.Given as goal

abbrev pub invariant-loop-c : goal.invariant-loop-c
invariant-loop-c l = record {
  step : IsColumnStep l.facts l.fn.columns l.columns;
  here : AllWithin (λ c. c < length l.facts.columns.items → IsNoted l.facts l.columns.asked.items l.columns.hidden.items l.d c) l.list 0 l.c-index;
}
