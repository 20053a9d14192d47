use Rattle.std.proofs.Common.{◌≡◌, ◌++◌, drop}
use Rattle.flow_rules.specs.Ordered.{each}
use Rattle.flow_facts.specs.Seen.{numbers_seen}
use Rattle.flow_rules.specs.Lists.{tied, row_at}
use Rattle.flow_rules.specs.declared.items.RowItem.TheVariants as row
use Rattle.flow_facts.proofs.ties.add_slot_args.Given as goal

abbrev pub invariant-loop-i : goal.invariant-loop-i
invariant-loop-i l = l.ties.items ++ each (λ i o. tied (row_at (numbers_seen l.n) o) ((numbers_seen l.n).row (row.Param l.slot i))) l.i
    (drop l.i l.args.items) ≡ l.fn.ties.items ++ each (λ i o. tied (row_at (numbers_seen l.n) o) ((numbers_seen l.n).row (row.Param l.slot i))) 0
    l.args.items
