pub mod Makes
pub mod Renamed
pub mod Sources
