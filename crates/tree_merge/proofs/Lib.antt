pub mod CountLemmas
pub mod TryLemmas
pub mod AttemptLemmas
pub mod StepLemmas
