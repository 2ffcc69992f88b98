pub mod Network
pub mod AccessUnit
pub mod StampedCalls
pub mod AnyUnits
pub mod Assembler
pub mod Spare
