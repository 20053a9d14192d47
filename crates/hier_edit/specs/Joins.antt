-- Mirror. What joins are tested by, and what is known when one was made.
use Rattle.std.specs.Prelude.{◌≡◌, ℕ, List, Ok}
use Rattle.fact_model.specs.InRange.{InRange}
use Rattle.fact_model.specs.Flowing.{AreSets}
use Rattle.fact_model.specs.declared.facts.Facts.{Facts}
use Rattle.fact_model.specs.declared.sets.PointsTo.{PointsTo}
use Rattle.hier_model.specs.Hierarchies.{Hierarchy, IsHierarchyOf}
use Rattle.hier_model.specs.Edits.{changed}
use Rattle.hier_model.specs.Places.{IsFormer, joined_nodes}
use Rattle.kaba_order.specs.Formers.{AreBelow}
use Rattle.hier_model.specs.declared.edits.Edit.{Edit}
use Rattle.hier_model.specs.declared.places.Join.{Join}
use Rattle.hier_rules.specs.First.{MeetsEdit}
use Rattle.hier_rules.specs.Index.{IsIndexOf, AreClashesOf}
use Rattle.hier_edit.specs.declared.JoinTests.{JoinTests}

-- facts in range, their sets, and what is found of both and of the names of members
pub record AreJoinTests (tests : JoinTests) (members : List (List ℕ)) : Type 0 where
  pub range : InRange tests.facts.now
  pub sets : AreSets tests.facts.now tests.sets.now
  pub index : IsIndexOf tests.facts.now tests.sets.now tests.index.now
  pub clashes : AreClashesOf tests.facts.now members tests.clashes.now.items

-- an edit made a hierarchy of one that met its obligations, and this is kept of that
pub record IsJoined (F : Facts) (pt : PointsTo) (edit : Edit) (new : Hierarchy) (kept : Join) : Type 0 where
  pub old : Hierarchy
  pub fits : IsHierarchyOf F old
  pub meets : MeetsEdit F pt old
  pub made : changed F old edit ≡ Ok new
  pub before : IsFormer old new kept
  pub low : AreBelow new.order (joined_nodes edit) kept.order.low
