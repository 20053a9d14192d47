pub mod Met
pub mod Views
pub mod Members
