pub mod Original
pub mod Sources
pub mod Keyframes
pub mod RtpReception
pub mod Plain
pub mod RtpCalls
pub mod Cases
