pub mod Seen
pub mod Cells
pub mod Packing
