-- The points-to sets of the facts are closed, so they cover each run.
use Rattle.std.proofs.Common.{◌≡◌, ℕ, List}
use Rattle.std.specs.Prelude.{◌≢◌, true}
use Rattle.kaba_derivations.proofs.Derivations.{each_weaker, derivable_by}
use Rattle.java_core.specs.Programs.{Plain}
use Rattle.java_meaning.specs.Moment.{Escaped}
use Rattle.java_meaning.specs.Meaning.{run_in}
use Rattle.fact_model.specs.Flowing.{Fact, in_point, in_cell, Inclusion, Holds, AreSets}
use Rattle.fact_model.specs.declared.facts.Facts.{Facts}
use Rattle.fact_model.specs.declared.sets.PointsTo.{PointsTo}
use Rattle.flow_laws.specs.cover.Covers.{has, solved, IsClosed, watched, CoversEachRun}

module _ (F : Facts) (t : PointsTo) (are : AreSets F t) where
  to_holds : (f : Fact) → has (solved t) f ≡ true → Holds F f
  to_holds (in_point p s) e = (are.points p s).0 e
  to_holds (in_cell c s) e = (are.cells c s).0 e

  from_holds : (f : Fact) → Holds F f → has (solved t) f ≡ true
  from_holds (in_point p s) h = (are.points p s).1 h
  from_holds (in_cell c s) h = (are.cells c s).1 h

  pub solved_closed : IsClosed F (solved t)
  unfolding IsClosed
  solved_closed ps f rule h = from_holds f (derivable_by (Inclusion F) ps f rule (each_weaker (λ p. has (solved t) p ≡ true) (Holds F) to_holds ps h))

  pub solved_covers : (P : Plain) → CoversEachRun P F → (words : List (List ℕ)) (n : ℕ) → (run_in (watched P F (solved t)) P.main words n).end ≢ Escaped
  unfolding CoversEachRun
  solved_covers P c words n = c (solved t) solved_closed words n
