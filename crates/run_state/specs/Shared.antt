-- The words that several contracts here share, of crates below and of this one.
pub use Rattle.java_core.specs.Programs.{program_of}
pub use Rattle.java_heap.specs.Seen.{value_of}
pub use Rattle.java_meaning.specs.Moment.{State, Outcome, Number, Object, step, with_some, or_fault, on_bool, stop, Faulted}
pub use Rattle.java_meaning.specs.Values.{int_of, natural_of, number_of}
pub use Rattle.java_meaning.specs.Meaning.{set_value}
pub use Rattle.java_meaning.specs.Languages.{language_of}
pub use Rattle.run_code.specs.Machine.{nothing}
pub use Rattle.run_state.specs.Run.{state_of, config_of}
pub use Rattle.run_state.specs.Founds.{at_heap, FindsOnHeap, KeepsMeaning, gives, makes}
pub use Rattle.run_state.specs.Turns.{to_slot, Turns}
