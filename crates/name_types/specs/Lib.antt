pub mod Keys
pub mod Found
pub mod Clashes
pub mod Marks
pub mod Writers
