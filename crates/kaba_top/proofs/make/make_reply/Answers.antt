use Rattle.std.proofs.Common.{refl, subst, sym}
use Rattle.java_core.specs.Programs.{program_of}
use Rattle.kaba_top.specs.MakeAnswers.{MakeAnswers}
use Rattle.kaba_top.specs.TextPrograms.{IsTypedText}
use Rattle.kaba_top.proofs.Samples.{sample_classes}
use Rattle.kaba_top.proofs.make.make_reply.Goals as goal

pub returns-then-prints : goal.returns-then-prints
returns-then-prints c = record {
  answers = subst (λ prints. MakeAnswers prints c.args.number 0 c.in_ok-text.text.items c.new.result.items) (sym c.if-prints.true)
      (record { status_is = refl; out_is = c.in_ok-text.ensures; err_is = c.new.ensures.items });
}

pub made_sample-requires : goal.made_sample-requires
made_sample-requires c = record {
  classes = λ program is.
      sample_classes c.args.number c.requires.most program (subst (λ bytes. IsTypedText bytes (program_of program)) c.in_ok-text.ensures is);
}
