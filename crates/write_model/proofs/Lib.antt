pub mod Small
pub mod Nowhere
pub mod NoMaker
mod Overriding
mod Fillers
mod Sites
mod Making
