pub mod Follows
pub mod Lists
pub mod Moved
