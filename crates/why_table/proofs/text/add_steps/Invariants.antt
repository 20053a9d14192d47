use Rattle.std.proofs.Common.{◌≡◌, ◌++◌, drop, string_bytes}
use Rattle.why_table.specs.Text.{steps_text}
use Rattle.why_table.proofs.text.add_steps.Given as goal

-- with the lines that are left, it is the whole
abbrev pub invariant-loop-k : goal.invariant-loop-k
invariant-loop-k l = string_bytes l.text ++ steps_text l.k (drop l.k l.steps) ≡ string_bytes l.fn.text ++ steps_text 0 l.steps
