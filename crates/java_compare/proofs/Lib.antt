pub mod Sizes
pub mod Sameness
pub mod Decided
pub mod Parts
mod Fixed
