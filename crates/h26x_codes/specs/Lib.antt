pub mod Codes
pub mod Copies
