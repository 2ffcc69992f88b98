-- What a depacketizer receives: runs of fragments, units, and outcomes.
pub mod Run
pub mod Received
pub mod Outcome
pub mod DepacketizerState
pub mod RunLimit
