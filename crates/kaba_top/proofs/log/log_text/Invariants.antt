use Rattle.std.proofs.Common.{◌≡◌, ◌++◌, drop, string_bytes}
use Rattle.kaba_top.specs.Logs.{log_text}
use Rattle.kaba_top.proofs.log.log_text.Given as goal

abbrev pub invariant-loop-step : goal.invariant-loop-step
invariant-loop-step l = string_bytes l.text ++ log_text (drop l.step-index l.log) ≡ log_text l.log
