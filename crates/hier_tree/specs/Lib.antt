pub mod Trees
pub mod Origins
pub mod Kept
pub mod Reached
pub mod Laws
