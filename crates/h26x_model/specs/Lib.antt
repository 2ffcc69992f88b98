pub mod Payload
pub mod Send
pub mod Receive
pub mod Carry
pub mod Where
