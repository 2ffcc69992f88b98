pub mod Header
pub mod Payload
pub mod Paci
pub mod Equality
