-- Mirror. The two commands with a script, by what they show.
use Rattle.std.specs.Prelude.{ℕ, List}
use Rattle.kaba_words.specs.Commands.{Cmd, edit, regen}
use Rattle.kaba_top.specs.declared.answer.Shows.{Shows}
use Rattle.kaba_top.specs.declared.answer.Shows.TheVariants as shows
use Rattle.kaba_top.specs.Answers.{EditAnswers, RegenAnswers}

-- the answers for the bytes of the file and of the script
abbrev pub ShownAnswers : Shows → ℕ → List ℕ → List ℕ → ℕ → List ℕ → List ℕ → Type 0
ShownAnswers shows.Hierarchy bound bytes script = EditAnswers bound bytes script
ShownAnswers shows.Program bound bytes script = RegenAnswers bound bytes script

-- the command
abbrev pub command_showing : Shows → ℕ → List ℕ → List ℕ → Cmd
command_showing shows.Hierarchy bound file script = edit bound file script
command_showing shows.Program bound file script = regen bound file script
