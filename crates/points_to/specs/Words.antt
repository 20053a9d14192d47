-- The words that several contracts here share, of crates below and of this one.
pub use Rattle.std.specs.Bool.{OnFalse}
pub use Rattle.kaba_bits.specs.Sets.{bit, row, IsSubset, IsStep}
pub use Rattle.fact_model.specs.InRange.{InRange}
pub use Rattle.points_to.specs.Above.{AreSitesBelow}
pub use Rattle.points_to.specs.Sound.{node_count, AreSound, InNode}
pub use Rattle.points_to.specs.Given.{IsSolverInput}
