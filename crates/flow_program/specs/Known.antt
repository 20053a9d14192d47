-- Believed. All that is known of the facts of a program.
use Rattle.java_core.specs.Programs.{Plain}
use Rattle.fact_model.specs.InOrder.{InOrder}
use Rattle.fact_model.specs.InRange.{InRange}
use Rattle.fact_model.specs.declared.facts.Facts.{Facts}
use Rattle.flow_rules.specs.Facts.{AreNamesOf, IsFactsOf, IsWithinLimits}
use Rattle.flow_laws.specs.cover.Covers.{CoversProgram}
use Rattle.sure_report.specs.Report.{AreSpotsInRange}
use Rattle.sure_laws.specs.Laws.{MeetInSets}
use Rattle.flow_program.specs.Solved.{HasCoveringSets}

-- the facts are those of the program, in range and in order, and their points-to sets cover each run
pub record AreProgramFacts (P : Plain) (F : Facts) : Type 0 where
  -- there is not too much of anything in the program
  pub within : IsWithinLimits P
  -- each list has what the text gives, in its order or as a set
  pub is : IsFactsOf P F
  pub names : AreNamesOf P F
  pub in_range : InRange F
  pub in_order : InOrder F
  -- each spot names a cast or a call by its number
  pub spots : AreSpotsInRange F
  -- sets that the inclusions close cover each run, and the points-to sets do
  pub covers : CoversProgram P F
  pub solved : HasCoveringSets P F
  -- for each family of sets that the inclusions close, what a run meets has its site in the set of its operand, receiver, `this` or base
  pub meets : MeetInSets P F
