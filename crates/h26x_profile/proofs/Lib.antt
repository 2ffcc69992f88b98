pub mod PatternLemmas
pub mod TextLemmas
pub mod TableLemmas
pub mod ProfileLemmas
pub mod H265OrderLemmas
pub mod H266OrderLemmas
