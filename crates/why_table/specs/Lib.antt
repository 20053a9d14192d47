pub mod Rules
pub mod Trails
pub mod Text
pub mod Tests
pub mod Found
pub mod Kept
pub mod Search
