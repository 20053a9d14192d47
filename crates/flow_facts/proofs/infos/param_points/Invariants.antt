use Rattle.std.proofs.Common.{◌≡◌, ◌++◌, ◌∷◌, [], drop, map}
use Rattle.flow_rules.specs.Ordered.{each}
use Rattle.java_core.specs.Programs.{local_seen}
use Rattle.flow_facts.specs.Seen.{numbers_seen}
use Rattle.flow_rules.specs.declared.items.PointItem.TheVariants as point
use Rattle.flow_facts.proofs.infos.param_points.Given as goal

abbrev pub invariant-loop-i : goal.invariant-loop-i
invariant-loop-i l = l.list.items ++ each (λ i v. (numbers_seen l.given.numbering.now).point (point.Local l.m i) ∷ []) l.i
    (map local_seen (drop l.i l.code.params.now.items)) ≡ each (λ i v. (numbers_seen l.given.numbering.now).point (point.Local l.m i) ∷ []) 0
    (map local_seen l.code.params.now.items)
