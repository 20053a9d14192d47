pub mod Given
pub mod Fixed
