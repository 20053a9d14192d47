pub mod Sizes
pub mod Steps
pub mod Parts
pub mod Bodies
