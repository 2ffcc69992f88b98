pub mod ReorderLemmas
pub mod HeldLemmas
pub mod BeyondLemmas
pub mod BufferLemmas
pub mod NewestLemmas
pub mod StepLemmas
pub mod NumberLemmas
pub mod PlaceShiftLemmas
