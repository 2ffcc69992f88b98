-- Both together: what is sent is received, and what is lost hurts no more than it must.
pub mod Loss
pub mod Detection
pub mod Laws
pub mod Gaps
pub mod AnySender
pub mod Sent
