pub mod Sound
pub mod HistoryLemmas
