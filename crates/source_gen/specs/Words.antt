-- The words that several contracts here share, of crates below and of this one.
pub use Rattle.std.specs.Option.{option_map}
pub use Rattle.kaba_order.specs.Orders.{is_live}
pub use Rattle.java_core.specs.Programs.{program_of, class_seen, method_seen, code_seen, field_seen, local_seen, slot_seen}
pub use Rattle.java_core.specs.Formed.{IsFormed}
pub use Rattle.fact_model.specs.InRange.{InRange}
pub use Rattle.hier_model.specs.Hierarchies.{IsHierarchyOf}
pub use Rattle.flow_rules.specs.Ordered.{each, when}
pub use Rattle.write_forms.specs.Sources.{IsSource, old_program, renaming}
pub use Rattle.source_gen.specs.Seen.{head_if}
pub use Rattle.source_gen.specs.Sources.{AreSourceNodes, HaveMakes, hierarchy_of}
