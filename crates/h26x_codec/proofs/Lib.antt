pub mod KeyframeLemmas
pub mod PlainLemmas
pub mod PlacementLemmas
pub mod RuleLemmas
pub mod SentLemmas
pub mod StateLemmas
