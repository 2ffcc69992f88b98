-- What sets payload formats apart, what a packet is, and what the laws ask of a format.
pub mod Reading
pub mod Format
pub mod Don
pub mod Extra
pub mod Facts
pub mod TwoBytes
