pub mod FromStream
pub mod FromStreamViews
