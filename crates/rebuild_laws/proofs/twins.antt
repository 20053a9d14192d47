pub mod Shapes
pub mod States
pub mod Moves
pub mod Operators
pub mod Depths
pub mod MadeCode
pub mod Calls
pub mod SameRun
mod TrySame
mod TryMake
