pub mod Ops
pub mod Code
pub mod Machine
pub mod Fits
pub mod Seen
