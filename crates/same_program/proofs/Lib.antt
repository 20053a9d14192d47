pub mod Seen
pub mod Lists
pub mod Partners
pub mod Decided
