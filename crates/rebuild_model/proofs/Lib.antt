pub mod Reclassed
pub mod Worked
pub mod WorkedRebuilds
pub mod WorkedMake
pub mod Retagging
pub mod WorkedOne
