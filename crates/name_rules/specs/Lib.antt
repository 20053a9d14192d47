pub mod Outline
pub mod Meanings
pub mod Asked
pub mod Resolves
pub mod Conditions
pub mod Causes
