pub mod PlaceLemmas
pub mod RunLemmas
pub mod AnswerLemmas
pub mod TakenLemmas
pub mod OrderLemmas
pub mod RefusalLemmas
pub mod DeliveryLemmas
pub mod SkipLemmas
