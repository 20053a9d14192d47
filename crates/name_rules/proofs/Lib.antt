pub mod FirstMethods
mod Makers
pub mod NoMakers
