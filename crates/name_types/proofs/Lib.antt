pub mod ClashSpots
pub mod MarkLemmas
pub mod SlotPlaces
pub mod WriterLemmas
