use Rattle.std.proofs.Common.{subst, string_bytes}
use Rattle.kaba_top.specs.Readings.{IsProgramReading}
use Rattle.kaba_top.proofs.Naming.{refused_named}
use Rattle.kaba_top.proofs.same.named_program.Goals as goal

pub returns-in-Typed : goal.returns-in-Typed
returns-in-Typed c = record { reading = subst (IsProgramReading c.args.bytes.now.items) c.in-Typed.is c.in_ok-program.ensures.reading }

pub returns-in_ok-with_name-in-Refused : goal.returns-in_ok-with_name-in-Refused
returns-in_ok-with_name-in-Refused c = record {
  reading = refused_named c.args.bytes.now.items (string_bytes c.args.file.now) c.in-Refused.reply c.in_ok-with_name-in-Refused.field-0
      (subst (IsProgramReading c.args.bytes.now.items) c.in-Refused.is c.in_ok-program.ensures.reading) c.in_ok-with_name-in-Refused.ensures.named;
}
