-- Believed. The answers of `run`, for the program of its file.
use Rattle.std.specs.Prelude.{ℕ, List, [], ◌++◌, codes}
use Rattle.java_core.specs.declared.Program.{Program}
use Rattle.java_core.specs.Programs.{program_of}
use Rattle.java_meaning.specs.Moment as meaning
use Rattle.java_run.specs.Outcomes.{meant}
use Rattle.kaba_top.specs.declared.cause_words.Cause.TheVariants as cause
use Rattle.kaba_top.specs.CauseWords.{cause_text}
use Rattle.kaba_top.specs.Lines.{GivesReply, line}

-- what the end of a run gives, with what was printed until then; a typed program has no other end
abbrev pub EndGives : meaning.End → List ℕ → ℕ → List ℕ → List ℕ → Type 0
EndGives meaning.Ended bytes = GivesReply 0 bytes []
EndGives (meaning.Faulted kind) bytes = GivesReply 10 bytes (line (codes "fault " ++ cause_text (cause.Fault kind)))
EndGives meaning.Going bytes = GivesReply 11 bytes (line (codes "going"))
EndGives meaning.Wrong bytes = λ status out err. ⊥
EndGives meaning.Escaped bytes = λ status out err. ⊥

-- what the run of the program on the words gives, within the steps
abbrev pub RunAnswers : ℕ → List (List ℕ) → Program → ℕ → List ℕ → List ℕ → Type 0
RunAnswers steps words program = EndGives (meant (program_of program) words steps).end (meant (program_of program) words steps).out
