pub mod AccessUnit
pub mod DepacketizerView
pub mod Look
pub mod OpenText
pub mod Run
pub mod RunDepacketizer
pub mod UnitSink
pub mod Shows
