pub mod cover
