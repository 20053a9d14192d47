pub mod Sample
pub mod Program
pub mod Laws
pub mod Kinds
