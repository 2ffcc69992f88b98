pub mod AggregateLemmas
pub mod ReceivingLemmas
pub mod OpenTextLemmas
