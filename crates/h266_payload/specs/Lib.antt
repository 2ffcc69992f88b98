pub mod H266
pub mod Reading
pub mod CodecFacts
pub mod Packet
pub mod Setting
pub mod AggregateHeader
pub mod EveryUnit
pub mod EveryFacts
