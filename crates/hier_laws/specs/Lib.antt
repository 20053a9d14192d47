pub mod Shapes
pub mod Obligations
pub mod Starts
pub mod Laws
