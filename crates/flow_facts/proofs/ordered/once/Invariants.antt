use Rattle.std.proofs.Common.{◌≡◌, ◌++◌, drop, map}
use Rattle.flow_rules.specs.Ordered.{once, once_after}
use Rattle.flow_facts.proofs.ordered.once.Given as goal

abbrev pub invariant-loop-item : goal.invariant-loop-item
invariant-loop-item g l = record {
  items : l.items.items ++ once_after g.K.PartialEq.eq g.T.HasKey.key l.keys.keys (drop l.item-index l.all.items)
      ≡ once g.K.PartialEq.eq g.T.HasKey.key l.all.items;
  keys : l.keys.keys ≡ map g.T.HasKey.key l.items.items;
}
