pub mod CaseLemmas
pub mod ToldWholeLemmas
