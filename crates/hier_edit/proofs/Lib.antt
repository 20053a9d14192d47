pub mod BeforeLemmas
