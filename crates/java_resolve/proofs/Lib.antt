pub mod Final
pub mod Made
pub mod TreeClasses
