use Rattle.std.proofs.Common.{◌≡◌}
use Rattle.hier_model.specs.Hierarchies.{IsHierarchyOf}
use Rattle.hier_rules.specs.Chains.{AreKnown}
use Rattle.hier_rules.specs.First.{MeetsEdit}
use Rattle.hier_tree.specs.Trees.{Leads}
use Rattle.tree_merge.specs.Attempts.{unordered}
use Rattle.tree_merge.specs.Logs.{steps_of, AreEdits}
use Rattle.tree_merge.proofs.trees.make_tree.Given as goal

abbrev pub invariant-steps : goal.invariant-steps
invariant-steps l = record {
  steps : Leads l.facts l.sets l.initial.hier (steps_of l.log.items) l.hier;
  edits : AreEdits l.log.items;
  meets : MeetsEdit l.facts l.sets l.hier;
  is : IsHierarchyOf l.facts l.hier;
  known : AreKnown l.facts l.hier l.known;
  members : l.hier.members ≡ l.initial.hier.members;
}

abbrev pub decreases-steps : goal.decreases-steps
decreases-steps l = unordered l.hier.order
