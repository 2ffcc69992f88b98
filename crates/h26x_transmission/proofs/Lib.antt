pub mod AgainLemmas
pub mod TransmissionLemmas
pub mod TakeLemmas
pub mod AnswerLemmas
