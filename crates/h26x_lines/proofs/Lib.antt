pub mod DigitLemmas
pub mod TableLemmas
pub mod TextLemmas
pub mod WrittenLemmas
