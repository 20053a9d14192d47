pub mod Refusals
pub mod Scripts
pub mod Answers
pub mod Histories
