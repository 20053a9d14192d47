mod SetLemmas
mod Pseudo
mod TableLemmas
mod Least
pub mod Laws
mod OrderLemmas
mod SaturateLemmas
mod Worked
mod WorkedLemmas
mod WorkedBase
mod NextLemmas
mod FoundLemmas
mod StemLemmas
mod RisingOrder
mod SortLemmas
mod BaseLemmas
pub mod Uniqueness
