-- Mirror. What is asked for of a program.
use Rattle.std.specs.Prelude.{◌≤◌, length}
use Rattle.kaba_words.specs.Commands.{most_concepts}
use Rattle.kaba_top.specs.Lines.{most_bytes}
use Rattle.kaba_top.specs.declared.script.Task.{Task}

-- a script within the limit of a file, and a bound within the limit of all
pub record IsTask (task : Task) : Type 0 where
  pub small : length task.script.now.items ≤ most_bytes
  pub bound : task.bound ≤ most_concepts
