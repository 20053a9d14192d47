pub mod looks
pub mod types
pub mod twins
pub mod runs
