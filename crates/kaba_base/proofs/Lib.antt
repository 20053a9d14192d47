pub mod ListLemmas
pub mod TestLemmas
pub mod Texts
pub mod Written
