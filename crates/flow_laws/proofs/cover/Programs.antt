-- The sets of the facts of a typed and formed program cover each of its runs; and its watched run is its run.
use Rattle.std.proofs.Common.{◌≡◌, ℕ, Option, Some, None, ⊎_elim}
use Rattle.std.specs.Prelude.{◌≢◌, slice_get}
use Rattle.std.specs.Option.{option_map, option_and_then}
use Rattle.java_core.specs.Trees.{Sts}
use Rattle.java_core.specs.Programs.{Plain, PlainMethod}
use Rattle.java_core.specs.Typing.{IsTyped}
use Rattle.java_core.specs.Formed.{IsFormed}
use Rattle.java_meaning.specs.Moment.{Outcome, unnoted, Escaped}
use Rattle.java_meaning.specs.Meaning.{run_in}
use Rattle.java_meaning.specs.Languages.{body_with, body_of, run}
use Rattle.java_meaning.specs.Watched.{RetaggedBody, s_no_body, s_body, EscapesOrIs}
use Rattle.java_meaning.proofs.WatchedPrograms.{watched_runs}
use Rattle.fact_model.specs.declared.facts.Facts.{Facts}
use Rattle.flow_rules.specs.Labels.{label_sts}
use Rattle.flow_rules.specs.Facts.{IsFactsOf}
use Rattle.flow_laws.specs.cover.Covers.{Sets, labelled_with, labelled_body, watched, CoversEachRun, CoversProgram}
use Rattle.flow_laws.specs.cover.Slotted.{HaveSlots}
use Rattle.flow_laws.proofs.cover.Labelled.{sts_same}
use Rattle.flow_laws.proofs.cover.Covered.{typed_covers}

-- the bodies with labels are those of the program but for their tags
bodies_same : (P : Plain) (F : Facts) (S : Sets) (m : ℕ) → RetaggedBody (labelled_body P F S m) (body_of P m)
unfolding labelled_body
bodies_same P F S m = go (slice_get P.methods m)
  where
    code : (k : PlainMethod) (b : Option Sts) → RetaggedBody (option_map (λ xs. body_with m k (label_sts 0 xs)) b) (option_map (λ xs. body_with m k xs) b)
    code k None = s_no_body
    code k (Some xs) = s_body (sts_same 0 xs)

    go : (o : Option PlainMethod) → RetaggedBody (option_and_then (labelled_with P F S m) o)
        (option_and_then (λ k. option_map (λ xs. body_with m k xs) k.body) o)
    go None = s_no_body
    go (Some k) = code k k.body

escapes_or : (o p : Outcome) → EscapesOrIs o p → o.end ≢ Escaped → unnoted o ≡ p
unfolding EscapesOrIs
escapes_or o p h n = ⊎_elim (λ e. absurd (n e)) (λ e. e) h

pub program_covers : (P : Plain) (F : Facts) → IsFormed P → IsTyped P → HaveSlots P → IsFactsOf P F → CoversProgram P F
unfolding CoversEachRun
program_covers P F formed typed slots facts =
    let c = typed_covers P F formed typed slots facts in record {
      covers = c;
      same = λ S closed words n. escapes_or (run_in (watched P F S) P.main words n) (run P words n)
          (watched_runs P (labelled_body P F S) _ (bodies_same P F S) words n) (c S closed words n);
    }
