pub mod Work
pub mod Run
pub mod Founds
pub mod Turns
pub mod Words
pub mod Shared
