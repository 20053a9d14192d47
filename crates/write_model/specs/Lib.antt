pub mod Names
pub mod Bodies
pub mod Supers
pub mod Members
pub mod Written
