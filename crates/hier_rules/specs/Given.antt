-- Mirror. What the obligations are asked of.
use Rattle.fact_model.specs.InRange.{InRange}
use Rattle.fact_model.specs.Flowing.{AreSets}
use Rattle.hier_model.specs.Hierarchies.{IsHierarchyOf}
use Rattle.hier_rules.specs.declared.places.Asked.{Asked}

-- facts in range, their sets, and a hierarchy of them
pub record IsObligationInput (asked : Asked) : Type 0 where
  pub facts : InRange asked.facts.now
  pub sets : AreSets asked.facts.now asked.pt.now
  pub hier : IsHierarchyOf asked.facts.now asked.hier.now
