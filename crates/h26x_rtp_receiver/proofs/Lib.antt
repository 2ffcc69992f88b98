pub mod OriginalLemmas
pub mod PlainLemmas
pub mod CallLemmas
pub mod CaseLemmas
