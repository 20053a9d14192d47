mod Try
mod TryMakers
pub mod Slots
pub mod Comes
pub mod Given
pub mod Places
pub mod Turns
pub mod Members
pub mod Calls
pub mod Receivers
pub mod Creations
pub mod Values
pub mod Tests
pub mod Effects
pub mod Loops
pub mod Statements
pub mod Runs
