-- The words that several contracts here share, of crates below and of this one.
pub use Rattle.std.specs.Bool.{OnTrue, OnFalse}
pub use Rattle.kaba_bits.specs.Sets.{bit, row, IsSubset, IsStep}
pub use Rattle.fact_model.specs.Items.{column_at, row_this}
pub use Rattle.fact_model.specs.InRange.{InRange}
pub use Rattle.fact_model.specs.Flowing.{AreSets, IsInRow}
pub use Rattle.fact_model.specs.Entries.{IsRawEntry, IsRawTable, IsEntry, IsDeclaredBy, Hides}
pub use Rattle.points_to.specs.Above.{IsAboveRow}
pub use Rattle.table_rules.specs.Above.{AreAbove}
pub use Rattle.table_rules.specs.Marks.{RowMarked, AreRaw, AreEntries, Grow}
pub use Rattle.table_rules.specs.Asked.{AreAsked, AreHidden, AreOpen, HaveMethods, IsHidingIndex, IsMethodColumn}
pub use Rattle.table_rules.specs.State.{IsClosureInput, IsOpen}
