pub mod Rules
pub mod Made
pub mod Steps
pub mod Skips
pub mod Spelled
pub mod Reading
pub mod Literals
pub mod Numbers
pub mod Pairs
pub mod Written
pub mod Longest
pub mod Few
mod Alone
