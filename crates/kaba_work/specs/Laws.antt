-- Mirror. A sample is a typed program.
use Rattle.std.specs.Prelude.{ℕ, ◌≤◌}
use Rattle.java_core.specs.declared.Program.{Program}
use Rattle.java_core.specs.Programs.{program_of}
use Rattle.java_core.specs.Typing.{IsTyped}
use Rattle.name_rules.specs.Resolves.{Resolves}
use Rattle.name_rules.specs.Causes.{HasNoCondition}
use Rattle.kaba_work.specs.Sample.{sample_tree}
use Rattle.kaba_work.specs.Program.{sample_program}

-- its names are those of one thing each
unfoldable pub SampleResolves : Type 0
SampleResolves = (n : ℕ) → n ≤ 100 → HasNoCondition (sample_tree n)

-- it resolves to its program
unfoldable pub SampleHasProgram : Type 0
SampleHasProgram = (n : ℕ) → 1 ≤ n → n ≤ 100 → Resolves (sample_tree n) (sample_program n)

-- whatever program it resolves to is typed
unfoldable pub SampleIsTyped : Type 0
SampleIsTyped = (n : ℕ) → 1 ≤ n → n ≤ 100 → (p : Program) → Resolves (sample_tree n) (program_of p) → IsTyped (program_of p)
