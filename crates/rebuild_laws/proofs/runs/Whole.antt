-- The law.
use Rattle.std.proofs.Common.{◌≡◌, ℕ, List, sym, ap, ◌∙◌}
use Rattle.std.specs.Prelude.{◌≢◌}
use Rattle.java_core.specs.Programs.{Plain}
use Rattle.java_core.specs.Formed.{IsFormed}
use Rattle.java_meaning.specs.Moment.{Outcome, unnoted, Wrong, Escaped}
use Rattle.java_meaning.specs.Meaning.{run_in}
use Rattle.java_meaning.specs.Languages.{run}
use Rattle.java_meaning.proofs.TypedPrograms.{never_wrong}
use Rattle.fact_model.specs.declared.facts.Facts.{Facts}
use Rattle.fact_model.specs.declared.sets.PointsTo.{PointsTo}
use Rattle.fact_model.specs.declared.sets.Table.{Table}
use Rattle.hier_model.specs.Hierarchies.{Hierarchy}
use Rattle.flow_laws.specs.cover.Covers.{solved, watched, CoversProgram}
use Rattle.flow_laws.specs.cover.Slotted.{HaveSlots}
use Rattle.flow_laws.proofs.cover.Programs.{program_covers}
use Rattle.flow_laws.proofs.cover.Solved.{solved_closed, solved_covers}
use Rattle.rebuild_model.specs.Rebuilds.{Rebuilds}
use Rattle.rebuild_laws.specs.looks.Known.{KnownOfBoth}
use Rattle.rebuild_laws.proofs.given.Given.{known}
use Rattle.rebuild_laws.specs.types.Laws.{IsRebuildable}
use Rattle.rebuild_laws.proofs.types.Tables.{same_table}
use Rattle.rebuild_laws.proofs.twins.States.{Alike}
use Rattle.rebuild_laws.specs.runs.Same.{HasSameRun, RebuiltRunsTheSame}
use Rattle.rebuild_laws.proofs.runs.Sited.{IsGiven}
use Rattle.rebuild_laws.proofs.runs.Rebuilt.{watched_same}

use_alike : (o p : Outcome) → Alike o p → o.end ≢ Wrong → o.end ≢ Escaped → unnoted o ≡ unnoted p
unfolding Alike
use_alike o p h a b = h a b

module _ (P : Plain) (F : Facts) (s : PointsTo) (t : Table) (H : Hierarchy) (W : Plain) (ready : IsRebuildable P F s t H) (new : IsFormed W)
    (b : Rebuilds P F H W) where
  abbrev K : KnownOfBoth P F H W
  K = known P ready.formed F ready.facts s H W new ready.hierarchy ready.unbroken b

  given : IsGiven P F H s t
  given = record { ready = ready; table = same_table F H t ready.hierarchy.table ready.table }

  slots : HaveSlots P
  unfolding HaveSlots
  slots m k e i = (ready.formed.methods m k e).slotted i

  covers : CoversProgram P F
  covers = program_covers P F ready.formed ready.typed slots ready.facts

  abbrev watched_run : List (List ℕ) → ℕ → Outcome
  watched_run words n = run_in (watched P F (solved s)) P.main words n

  is_run : (words : List (List ℕ)) (n : ℕ) → unnoted (watched_run words n) ≡ run P words n
  is_run words n = covers.same (solved s) (solved_closed F s ready.sets) words n

  runs_alike : (words : List (List ℕ)) (n : ℕ) → unnoted (watched_run words n) ≡ unnoted (run W words n)
  runs_alike words n =
      use_alike (watched_run words n) (run W words n) (watched_same K s t given words n)
      (λ e. never_wrong P ready.formed ready.typed words n (sym (ap (λ o. o.end) (is_run words n)) ∙ e))
      (solved_covers F s ready.sets P covers.covers words n)

  runs_same : HasSameRun P W
  runs_same = record {
    end = λ words n. ap (λ o. o.end) (sym (is_run words n) ∙ runs_alike words n);
    out = λ words n. ap (λ o. o.out) (sym (is_run words n) ∙ runs_alike words n);
    left = λ words n. ap (λ o. o.left) (sym (is_run words n) ∙ runs_alike words n);
  }

pub rebuilt_runs_the_same : RebuiltRunsTheSame
unfolding RebuiltRunsTheSame
rebuilt_runs_the_same = runs_same
