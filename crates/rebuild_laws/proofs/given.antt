pub mod Rest
pub mod Apart
pub mod Made
pub mod Given
pub mod Needed
