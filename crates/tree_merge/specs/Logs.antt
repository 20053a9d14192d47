-- Believed. The log of the steps towards a tree, and where there is none.
use Rattle.std.specs.Prelude.{List, map, All}
use Rattle.fact_model.specs.declared.facts.Facts.{Facts}
use Rattle.fact_model.specs.declared.sets.PointsTo.{PointsTo}
use Rattle.hier_model.specs.Hierarchies.{Hierarchy}
use Rattle.hier_tree.specs.Trees.{GrowthStep, Stuck, Grows, Leads, IsEditOf, try_of}
use Rattle.tree_merge.specs.declared.steps.TreeStep.{TreeStep}
use Rattle.tree_merge.specs.declared.trees.TreeFault.{TreeFault}
use Rattle.tree_merge.specs.declared.trees.TreeFault.TheVariants as fault

-- the step that a line of a log tells, and those of a log
abbrev pub step_of : TreeStep → GrowthStep
step_of s = record { conflict = s.conflict; try = try_of s.edit }

-- the steps that a log tells, in their order
abbrev pub steps_of : List TreeStep → List GrowthStep
steps_of log = map step_of log

-- each edit of a log is a merge or an under
abbrev pub AreEdits : List TreeStep → Type 0
AreEdits log = All (λ s. IsEditOf (try_of s.edit) s.edit) log

-- no tree: the steps of the log end at the conflict, with what its last try breaks; short of memory: some first steps were made
abbrev pub IsTreeFault : Facts → PointsTo → Hierarchy → Hierarchy → TreeFault → Type 0
IsTreeFault F pt Old New (fault.NoTree n) = Grows F pt Old (steps_of n.log.items) (Stuck New n.conflict n.broken) × AreEdits n.log.items
IsTreeFault F pt Old New fault.Memory = (log : List GrowthStep) × Leads F pt Old log New
