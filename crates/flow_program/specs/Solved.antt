-- Believed. The points-to sets of the facts cover each run of the program.
use Rattle.std.specs.Prelude.{◌≡◌, ◌≢◌, ℕ, List}
use Rattle.java_core.specs.Programs.{Plain}
use Rattle.java_meaning.specs.Moment.{unnoted, Escaped}
use Rattle.java_meaning.specs.Meaning.{run_in}
use Rattle.java_meaning.specs.Languages.{run}
use Rattle.fact_model.specs.Flowing.{AreSets}
use Rattle.fact_model.specs.declared.facts.Facts.{Facts}
use Rattle.fact_model.specs.declared.sets.PointsTo.{PointsTo}
use Rattle.flow_laws.specs.cover.Covers.{solved, watched}

-- under their watch no run of the program escapes, and each but for what it notes is the run without a watch
pub record CoverRun (P : Plain) (F : Facts) (t : PointsTo) (words : List (List ℕ)) (n : ℕ) : Type 0 where
  pub covers : (run_in (watched P F (solved t)) P.main words n).end ≢ Escaped
  pub same : unnoted (run_in (watched P F (solved t)) P.main words n) ≡ run P words n

-- the sets of the facts cover each run of the program, on any words and for any number of steps
unfoldable pub HasCoveringSets : Plain → Facts → Type 0
HasCoveringSets P F = (t : PointsTo) → AreSets F t → (words : List (List ℕ)) (n : ℕ) → CoverRun P F t words n
