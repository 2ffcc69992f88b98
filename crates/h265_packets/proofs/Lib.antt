pub mod PaciLemmas
pub mod EqualityLemmas
