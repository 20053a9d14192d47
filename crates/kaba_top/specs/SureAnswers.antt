-- Believed. The answers of `sure`, for the program of its file.
use Rattle.std.specs.Prelude.{ℕ, List, []}
use Rattle.fact_model.specs.declared.facts.Facts.{Facts}
use Rattle.fact_model.specs.declared.sets.PointsTo.{PointsTo}
use Rattle.fact_model.specs.Flowing.{AreSets}
use Rattle.sure_report.specs.declared.Sure.{Sure}
use Rattle.sure_report.specs.Report.{AreSpotsInRange, IsSureReport}
use Rattle.sure_report.specs.Text.{sure_text}
use Rattle.kaba_top.specs.Lines.{GivesReply}

-- the text of what is sure of every run by the points-to sets of the facts, each of whose spots names a test or a call
pub record SureOf (facts : Facts) (status : ℕ) (out err : List ℕ) : Type 0 where
  pub spots : AreSpotsInRange facts
  pub sets : PointsTo
  pub are_sets : AreSets facts sets
  pub report : Sure
  pub is : IsSureReport facts sets report
  pub gives : GivesReply 0 (sure_text facts report) [] status out err
