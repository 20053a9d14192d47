use Rattle.std.proofs.Common.{ℕ, ◌≤◌, ◌<◌, length, get_or, string_bytes}
use Rattle.std.specs.declared.string.String.{String}
use Rattle.std.specs.declared.alloc.Global.{Global}
use Rattle.kaba_words.specs.Commands.{most_units}
use Rattle.kaba_words.proofs.words.are_short.Given as goal

abbrev pub invariant-loop-word : goal.invariant-loop-word
invariant-loop-word l = (k : ℕ) (d : String Global) → k < l.word-index → length (string_bytes (get_or l.words k d)) ≤ most_units
