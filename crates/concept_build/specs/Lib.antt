pub mod Tables
pub mod Lists
pub mod Places
pub mod Laws
pub mod Given
