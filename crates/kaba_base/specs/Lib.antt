pub mod Words
pub mod Outside
