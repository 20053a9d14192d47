-- Believed. The outcome of a run, as the meaning gives it.
use Rattle.std.specs.Prelude.{◌≡◌, ℕ, ◌+◌, List, map}
use Rattle.java_core.specs.Programs.{Plain}
use Rattle.java_meaning.specs.Moment as meaning
use Rattle.java_meaning.specs.Languages as languages
use Rattle.run_state.specs.Words.{units_of}
use Rattle.java_run.specs.declared.runs.End.{End}
use Rattle.java_run.specs.declared.runs.End.TheVariants as ends
use Rattle.java_run.specs.declared.runs.Outcome.{Outcome}

-- what the meaning gives for a program on words, of which these are the bytes, with so many steps
unfoldable pub meant : Plain → List (List ℕ) → ℕ → meaning.Outcome
meant P words bound = languages.run P (map units_of words) bound

-- how a run ends, as the meaning says it
abbrev pub end_of : End → meaning.End
end_of ends.Ended = meaning.Ended
end_of (ends.Fault kind) = meaning.Faulted kind
end_of ends.Going = meaning.Going

-- what was printed, how the run ended and the steps that it took are the meaning's
pub record IsOutcomeOf (P : Plain) (words : List (List ℕ)) (bound : ℕ) (given : Outcome) : Type 0 where
  pub out : given.out.items ≡ (meant P words bound).out
  pub end : end_of given.end ≡ (meant P words bound).end
  pub used : given.used + (meant P words bound).left ≡ bound
