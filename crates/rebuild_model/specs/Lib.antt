pub mod Renaming
pub mod Makes
pub mod Matches
pub mod Members
pub mod Rebuilds
pub mod Written
pub mod OneBodies
pub mod OnePrograms
