pub mod ClaimLemmas
pub mod FactLemmas
pub mod FlowingTests
pub mod EntryTests
pub mod RuleTests
pub mod Sound
pub mod Complete
pub mod PastLemmas
pub mod CheckLemmas
mod Worked
mod StepLemmas
mod KeptLemmas
mod SearchLemmas
mod FindLemmas
