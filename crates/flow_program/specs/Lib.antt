pub mod Solved
pub mod Known
pub mod Same
