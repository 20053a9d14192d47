-- Believed. When two programs have the same run, and the laws that a program has the run of each that it rebuilds, and
-- of each that is one with it.
use Rattle.std.specs.Prelude.{◌≡◌, ℕ, List}
use Rattle.java_core.specs.Programs.{Plain}
use Rattle.java_core.specs.Typing.{IsTyped}
use Rattle.java_core.specs.Formed.{IsFormed}
use Rattle.java_meaning.specs.Languages.{run}
use Rattle.fact_model.specs.declared.facts.Facts.{Facts}
use Rattle.fact_model.specs.declared.sets.PointsTo.{PointsTo}
use Rattle.fact_model.specs.declared.sets.Table.{Table}
use Rattle.hier_model.specs.Hierarchies.{Hierarchy}
use Rattle.rebuild_model.specs.Rebuilds.{Rebuilds}
use Rattle.rebuild_model.specs.OnePrograms.{AreOne}
use Rattle.rebuild_laws.specs.types.Laws.{IsRebuildable}

-- for all words and every bound on the steps they end the same way, have printed the same, and have as many steps left
pub record HasSameRun (P W : Plain) : Type 0 where
  pub end : (words : List (List ℕ)) (n : ℕ) → (run P words n).end ≡ (run W words n).end
  pub out : (words : List (List ℕ)) (n : ℕ) → (run P words n).out ≡ (run W words n).out
  pub left : (words : List (List ℕ)) (n : ℕ) → (run P words n).left ≡ (run W words n).left

-- any formed program that rebuilds a typed one over a hierarchy that breaks no obligation has its run; that it is typed is not asked
unfoldable pub RebuiltRunsTheSame : Type 0
RebuiltRunsTheSame = (P : Plain) (F : Facts) (s : PointsTo) (t : Table) (H : Hierarchy) (W : Plain) → IsRebuildable P F s t H → IsFormed W
    → Rebuilds P F H W → HasSameRun P W

-- two formed programs that are one have the same run, where the first is typed
unfoldable pub OneRunsTheSame : Type 0
OneRunsTheSame = (P Q : Plain) → IsFormed P → IsTyped P → IsFormed Q → AreOne P Q → HasSameRun P Q
