pub mod Fills
pub mod Made
pub mod Seen
pub mod Sources
pub mod Words
