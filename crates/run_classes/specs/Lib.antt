pub mod Known
pub mod Exact
pub mod Made
pub mod Lines
