-- What a packetizer sends: its calls, the plan of their units, and their packets.
pub mod Calls
pub mod Group
pub mod Plan
pub mod WaitingSets
pub mod Packets
pub mod Fragments
pub mod Limit
pub mod Rival
pub mod Again
pub mod PacketizerState
pub mod Laws
pub mod Every
