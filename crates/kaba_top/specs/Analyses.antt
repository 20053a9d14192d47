-- Mirror. What is known once a program was analysed.
use Rattle.java_core.specs.declared.Program.{Program}
use Rattle.kaba_top.specs.declared.analysis.Analysed.{Analysed}
use Rattle.kaba_top.specs.declared.analysis.Analysed.TheVariants as analysed
use Rattle.kaba_top.specs.FactsAnswers.{HasFacts, IsOverLimit}

-- all that is known of the facts of the program, or a reply that it has too much of something
abbrev pub IsAnalysisOf : Program → Analysed → Type 0
IsAnalysisOf program (analysed.Found facts) = HasFacts program facts
IsAnalysisOf program (analysed.Refused reply) = IsOverLimit program reply.status reply.out.items reply.err.items
