pub mod Outcome
pub mod Callees
pub mod Fails
pub mod StatementOutcome
pub mod ClassOutcome
pub mod ProgramOutcome
pub mod SlotOutcome
pub mod NearOutcome
