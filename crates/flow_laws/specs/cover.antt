pub mod Families
pub mod Watched
pub mod Covers
pub mod Slotted
