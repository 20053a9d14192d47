pub mod Numbers
pub mod Patterns
pub mod OneCommand
