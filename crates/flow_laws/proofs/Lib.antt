pub mod NoMaker
pub mod cover
pub mod order
