use Rattle.std.proofs.Common.{◌+◌, ◌-◌, length, string_bytes}
use Rattle.std.specs.Str.{chars}
use Rattle.fact_model.specs.FreeNames.{longest}
use Rattle.fact_model.specs.Taken.{texts}
use Rattle.fact_model.proofs.FreeLemmas.{IsTried}
use Rattle.fact_model.proofs.free_names.free_name.Given as goal

abbrev pub invariant-loop-text : goal.invariant-loop-text
invariant-loop-text l = IsTried (texts l.taken.keys) (chars (string_bytes l.fn.base)) (chars (string_bytes l.text))

abbrev pub decreases-loop-text : goal.decreases-loop-text
decreases-loop-text l = (longest (texts l.taken.keys) + 1) - length (chars (string_bytes l.text))
