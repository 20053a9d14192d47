pub mod RawLemmas
pub mod CloseLemmas
pub mod AskLemmas
pub mod IndexLemmas
