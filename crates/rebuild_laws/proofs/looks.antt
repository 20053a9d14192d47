pub mod Along
pub mod Nodes
pub mod Fields
pub mod Slots
pub mod Methods
pub mod Declared
pub mod Bodies
pub mod Statics
pub mod Concrete
mod WorkedParts
mod FormedOld
mod FormedNew
mod TryKnown
