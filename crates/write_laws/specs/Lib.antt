pub mod bodies
pub mod rebuilds
pub mod names
pub mod given
pub mod runs
