use Rattle.std.proofs.Common.{◌≡◌, ◌++◌, drop}
use Rattle.flow_rules.specs.Ordered.{each}
use Rattle.flow_facts.specs.Seen.{numbers_seen}
use Rattle.flow_rules.specs.Lists.{created}
use Rattle.flow_rules.specs.declared.items.PointItem.TheVariants as point
use Rattle.flow_facts.proofs.lists.add_created_args.Given as goal

abbrev pub invariant-loop-i : goal.invariant-loop-i
invariant-loop-i l = l.news.items ++ each (λ i o. created (numbers_seen l.n) o ((numbers_seen l.n).point (point.Local l.callee i))) l.i
    (drop l.i l.args.items) ≡ l.fn.news.items ++ each (λ i o. created (numbers_seen l.n) o ((numbers_seen l.n).point (point.Local l.callee i))) 0
    l.args.items
