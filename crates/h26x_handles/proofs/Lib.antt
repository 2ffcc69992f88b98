pub mod AccessUnitLemmas
pub mod MemoryLemmas
pub mod PayloadLemmas
pub mod PushAllLemmas
pub mod ReceiveAllLemmas
pub mod RtpUnitLemmas
pub mod SkipLemmas
pub mod UnitCaseLemmas
