pub mod Stages
pub mod Known
pub mod Laws
