pub mod HeaderLemmas
pub mod PieceLemmas
pub mod SequenceLemmas
