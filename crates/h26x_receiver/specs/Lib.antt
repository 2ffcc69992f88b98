pub mod Sequenced
pub mod Delivery
