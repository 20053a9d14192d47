pub mod Orders
pub mod Beyond
pub mod Flips
pub mod Written
pub mod Formers
pub mod Lower
