pub mod Rows
pub mod Appended
pub mod Sizes
pub mod Gives
pub mod Outputs
mod AnyMaker
