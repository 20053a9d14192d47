pub mod Lists
pub mod Forms
pub mod Sides
pub mod Built
pub mod Compiled
pub mod Placed
