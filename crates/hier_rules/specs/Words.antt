-- The words that several contracts here and in the crates above share, of crates below and of this one.
pub use Rattle.std.specs.Str.{bytes_eq}
pub use Rattle.std.specs.List.{list_any}
pub use Rattle.std.specs.List.Sorted.{IsNonDecreasing}
pub use Rattle.kaba_bits.specs.Sets.{bit, row, first_below, or_else, HasWidth}
pub use Rattle.kaba_order.specs.Orders.{is_le, is_live}
pub use Rattle.fact_model.specs.Items.{row_class}
pub use Rattle.fact_model.specs.InRange.{InRange}
pub use Rattle.fact_model.specs.InOrder.{InOrder}
pub use Rattle.fact_model.specs.Entries.{IsTable}
pub use Rattle.fact_model.specs.Concepts.{IsLatticeOf}
pub use Rattle.fact_model.specs.Flowing.{AreSets}
pub use Rattle.hier_model.specs.Hierarchies.{IsHierarchyOf, is_offered}
pub use Rattle.hier_model.specs.Start.{start_from}
pub use Rattle.hier_model.specs.Edits.{NamesSome}
pub use Rattle.hier_rules.specs.First.{MeetsEdit, first_broken}
pub use Rattle.hier_rules.specs.Given.{IsObligationInput}
pub use Rattle.hier_rules.specs.Takens.{AreTaken}
