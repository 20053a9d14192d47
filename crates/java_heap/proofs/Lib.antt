pub mod Copies
pub mod Lying
pub mod Paired
pub mod Stored
pub mod Units
pub mod Unpacked
