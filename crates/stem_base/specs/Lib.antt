pub mod Base
pub mod Faults
pub mod Laws
pub mod Text
pub mod Lectic
pub mod Found
pub mod Saturate
