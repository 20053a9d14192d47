use Rattle.std.proofs.Common.{◌≡◌, ◌<◌, ◌-◌, length, map, drop}
use Rattle.hier_model.specs.Hierarchies.{IsHierarchyOf}
use Rattle.hier_rules.specs.Chains.{AreKnown}
use Rattle.hier_rules.specs.First.{MeetsEdit}
use Rattle.hier_tree.specs.Trees.{first_accepted, last_try, try_of}
use Rattle.tree_merge.proofs.attempts.first_accepted.Given as goal

abbrev pub invariant-tries : goal.invariant-tries
invariant-tries l = record {
  below : l.k < length l.tries;
  same : l.hier ≡ l.initial.hier;
  first : first_accepted l.given.facts.now l.given.sets.now l.initial.hier (map try_of (drop l.k l.tries))
      ≡ first_accepted l.given.facts.now l.given.sets.now l.initial.hier (map try_of l.tries);
  last : last_try (map try_of (drop l.k l.tries)) ≡ last_try (map try_of l.tries);
  is : IsHierarchyOf l.given.facts.now l.hier;
  meets : MeetsEdit l.given.facts.now l.given.sets.now l.hier;
  members : l.hier.members ≡ l.initial.hier.members;
  known : AreKnown l.given.facts.now l.hier l.known;
}

abbrev pub decreases-tries : goal.decreases-tries
decreases-tries l = length l.tries - l.k
