pub mod Covering
pub mod OneAnswer
