pub mod Text
pub mod Json
pub mod Table
pub mod Lists
