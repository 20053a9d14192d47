pub mod Applied
pub mod Joins
