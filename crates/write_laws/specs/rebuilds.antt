pub mod Supertypes
pub mod Laws
