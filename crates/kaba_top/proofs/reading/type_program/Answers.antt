use Rattle.std.proofs.Common.{subst}
use Rattle.java_core.specs.Programs.{program_of}
use Rattle.java_check.specs.Fails.{IsRefused}
use Rattle.kaba_top.proofs.Texts.{ill_typed}
use Rattle.kaba_top.proofs.reading.type_program.Goals as goal

pub returns-in_ok-not_typed-in-Err-IllTyped : goal.returns-in_ok-not_typed-in-Err-IllTyped
returns-in_ok-not_typed-in-Err-IllTyped c = record {
  reading = ill_typed c.args.program c.in-Err-IllTyped.kind c.in-Err-IllTyped.place c.in_ok-not_typed-in-Err-IllTyped.field-0
      (subst (IsRefused (program_of c.args.program)) c.in-Err-IllTyped.field-0-is c.in-Err-IllTyped.ensures.refused)
      c.in-Err-IllTyped.ensures.untyped
      c.in_ok-not_typed-in-Err-IllTyped.ensures;
}
