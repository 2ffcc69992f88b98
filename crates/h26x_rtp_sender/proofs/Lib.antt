pub mod HistoryLemmas
pub mod UnitLemmas
pub mod NumberLemmas
pub mod LawLemmas
pub mod ReceivingLemmas
pub mod EndLemmas
