pub mod RowLemmas
pub mod ConstraintsLemmas
pub mod LevelSetsLemmas
pub mod CapabilityPointsLemmas
pub mod DigitLemmas
pub mod RtxLemmas
