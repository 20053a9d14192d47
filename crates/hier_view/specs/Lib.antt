pub mod Text
pub mod EditText
