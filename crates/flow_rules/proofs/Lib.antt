pub mod TypeLemmas
pub mod Same
pub mod Examples
pub mod Listed
pub mod FixedNames
pub mod Keys
pub mod NumberedItems
pub mod ByPlace
pub mod Spotted
mod MakerExamples
mod SpotExamples
