pub mod Scopes
pub mod Words
pub mod Sides
pub mod Exits
pub mod Bodies
