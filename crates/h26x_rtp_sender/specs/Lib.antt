pub mod Sent
pub mod History
pub mod Sending
pub mod InMemory
pub mod Receiving
pub mod Cases
