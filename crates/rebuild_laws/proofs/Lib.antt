pub mod looks
pub mod given
pub mod types
pub mod twins
pub mod runs
pub mod one
