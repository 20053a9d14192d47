pub mod Moment
pub mod Values
pub mod Meaning
pub mod Languages
pub mod EachStatement
pub mod Paired
pub mod TypedLang
pub mod Watched
