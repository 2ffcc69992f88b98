pub mod Rtp
pub mod Reordering
pub mod ReorderBuffer
pub mod BufferSteps
pub mod NumberOrder
