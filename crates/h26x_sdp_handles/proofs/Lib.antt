pub mod ErrorLemmas
pub mod ParameterLemmas
pub mod SdpValueLemmas
pub mod KeptUnitsLemmas
pub mod LevelUnitLemmas
