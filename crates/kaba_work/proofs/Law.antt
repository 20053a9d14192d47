-- The laws of samples.
use Rattle.std.proofs.Common.{subst}
use Rattle.java_core.specs.Programs.{program_of}
use Rattle.java_core.specs.Typing.{IsTyped}
use Rattle.name_laws.proofs.OnlyWhole.{only}
use Rattle.kaba_work.specs.Sample.{sample_tree}
use Rattle.kaba_work.specs.Program.{sample_program}
use Rattle.kaba_work.specs.Laws.{SampleResolves, SampleHasProgram, SampleIsTyped}
use Rattle.kaba_work.proofs.FormedTree.{sample_formed}
use Rattle.kaba_work.proofs.Whole.{resolves}
use Rattle.kaba_work.proofs.Conditions.{no_condition}
use Rattle.kaba_work.proofs.Typed.{program_typed}

pub sample_resolves : SampleResolves
unfolding SampleResolves
sample_resolves n most = no_condition n most

pub sample_has_program : SampleHasProgram
unfolding SampleHasProgram
sample_has_program n one most = resolves n most one

pub sample_typed : SampleIsTyped
unfolding SampleIsTyped
sample_typed n one most p r =
    subst IsTyped (only (sample_tree n) (sample_formed n most) (no_condition n most) (sample_program n) (program_of p) (resolves n most one) r)
    (program_typed n)
