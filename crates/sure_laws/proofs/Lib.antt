pub mod Kept
pub mod Recorded
pub mod Tested
pub mod Touched
pub mod Sure
mod Examples
pub mod FactSpots
pub mod Shapes
pub mod Families
mod Spotted
pub mod Shaped
pub mod Meeting
pub mod OwnSpots
