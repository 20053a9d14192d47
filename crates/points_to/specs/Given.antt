-- Mirror. What the sets are found by.
use Rattle.fact_model.specs.InRange.{InRange}
use Rattle.points_to.specs.Listed.{IsIndex}
use Rattle.points_to.specs.Work.{AreFound}
use Rattle.points_to.specs.Closed.{AreAskedFound}
use Rattle.points_to.specs.declared.found.Given.{Given}

-- the facts are in range, the index is theirs, and what was found is what they ask for
pub record IsSolverInput (g : Given) : Type 0 where
  pub facts : InRange g.facts.now
  pub index : IsIndex g.facts.now g.index.now
  pub found : AreFound g.facts.now g.found.now
  pub asked : AreAskedFound g.facts.now g.found.now
