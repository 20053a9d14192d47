-- The words that several contracts here share, of crates below and of this one.
pub use Rattle.kaba_base.specs.Outside.{Rose}
pub use Rattle.fact_model.specs.declared.sets.Table.{Table}
pub use Rattle.kaba_words.specs.Commands.{texts}
pub use Rattle.hier_rules.specs.Words.{InRange, InOrder, IsTable, AreSets, IsHierarchyOf, MeetsEdit}
pub use Rattle.java_core.specs.Programs.{program_of}
pub use Rattle.java_run.specs.Outcomes.{end_of}
pub use Rattle.kaba_top.specs.Logs.{log_text, no_tree_text}
pub use Rattle.flow_program.specs.Known.{AreProgramFacts}
pub use Rattle.java_write.specs.Written.{HasText}
pub use Rattle.kaba_top.specs.Lines.{GivesReply, Says, line, most_bytes}
pub use Rattle.kaba_top.specs.Reading.{TextAnswers}
pub use Rattle.kaba_top.specs.FactsAnswers.{AnalysisAnswers}
pub use Rattle.kaba_top.specs.Tasks.{IsTask}
pub use Rattle.kaba_top.specs.EditAnswers.{edit_status}
