-- The words that several contracts here share, of crates below and of this one.
pub use Rattle.java_core.specs.Programs.{Plain, program_of, method_seen, code_seen}
pub use Rattle.java_core.specs.Formed.{IsFormed}
pub use Rattle.flow_rules.specs.Ordered.{each}
pub use Rattle.flow_facts.specs.Views.{part_seen, parts_seen, body_seen, outline_seen}
pub use Rattle.flow_facts.specs.Seen.{numbers_seen, if_there}
