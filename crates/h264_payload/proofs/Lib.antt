pub mod HeaderLemmas
pub mod SetLemmas
pub mod ReadBackLemmas
pub mod FactLemmas
pub mod ReadingLemmas
pub mod EveryLemmas
