pub mod CodecStates
pub mod EveryUnits
pub mod Transmissions
pub mod Taking
pub mod Repeating
