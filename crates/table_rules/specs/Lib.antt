pub mod Marks
pub mod Closed
pub mod Asked
pub mod Above
pub mod Gathered
pub mod State
pub mod Words
