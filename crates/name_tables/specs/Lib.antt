pub mod Declarations
pub mod Known
pub mod Owned
pub mod Spots
pub mod Scopes
