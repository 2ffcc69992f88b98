-- What calls do to the endpoint behind a handle.
use Rattle.std.specs.Prelude.{◌≡◌, ◌⊎◌, ℕ, Bool, true, List, Option, Some, Result, Ok}
use Rattle.h26x_model.specs.Send.PacketizerState.{PacketizerState}
use Rattle.h26x_model.specs.Receive.DepacketizerState.{Depacketization}
use Rattle.h26x_model.specs.Where.{Where}
use Rattle.h26x_codec.specs.declared.codec.Codec.{Codec}
use Rattle.h26x_receiver.specs.Sequenced.{SequencedDepacketization}
use Rattle.h26x_codes.specs.Codes.{may_have_donl, says_taken, ok, out_of_memory}
use Rattle.h26x_codes.specs.Copies.{AreHandedOver}
use Rattle.h26x_endpoint.specs.EndpointStates.{endpoint_packetizer_state, endpoint_after_told_packet, endpoint_after_packet, endpoint_written, endpoint_codec, endpoint_showing, endpoint_without_output}
use Rattle.h26x_endpoint.specs.declared.endpoint.Endpoint.{Endpoint}

-- a call that makes something of a codec, where there is one, put this where the handle is written
abbrev pub Makes : {T : Type 0} → Result Codec ℕ → ℕ → Option T → (Codec → T) → Type 0
Makes codec code made fresh = (c : Codec) → codec ≡ Ok c → code ≡ ok → made ≡ Some (fresh c)

-- a code and what stands then are those of an answer, or memory lacks
abbrev pub GivesOrOutOfMemory : {T : Type 0} → ℕ → T → ℕ × T → Type 0
GivesOrOutOfMemory code new answer = (code ≡ out_of_memory) ⊎ ((code, new) ≡ answer)

-- this is the packetizer at an endpoint
abbrev pub HasPacketizer : Endpoint → PacketizerState → Type 0
HasPacketizer p it = endpoint_packetizer_state p ≡ Some it

-- what holds of the packetizer at an endpoint, if one stands there
abbrev pub WherePacketizer : Endpoint → (PacketizerState → Type 0) → Type 0
WherePacketizer p Holds = Where (endpoint_packetizer_state p) Holds

-- the same once a call is carried out
abbrev pub OnceDone : Endpoint → ℕ → (PacketizerState → Type 0) → Type 0
OnceDone p code Holds = WherePacketizer p (λ it. code ≡ ok → Holds it)

-- the same of a packetizer of a codec that has decoding order numbers
abbrev pub WhereDonl : Endpoint → (Codec → PacketizerState → Type 0) → Type 0
WhereDonl p Holds = WherePacketizer p (λ it. may_have_donl (endpoint_codec p) ≡ true →
    Holds (endpoint_codec p) it)

-- what holds of what stands once a depacketizer has taken a packet, if it takes it
abbrev pub IfDepacketized : Bool → Endpoint → ℕ → List ℕ → ℕ → (Depacketization → Type 0) → Type 0
IfDepacketized is_avc d extra packet code Holds = (w : Depacketization) → code ≡ ok →
    endpoint_after_told_packet is_avc d extra packet ≡ Some w → Holds w

-- what holds of what stands once a receiver has taken a packet, if the code and what is told say so
abbrev pub IfReceived : Endpoint → ℕ → ℕ → List ℕ → ℕ → ℕ → (SequencedDepacketization → Type 0) →
    Type 0
IfReceived r extra number packet code received Holds = (w : SequencedDepacketization) →
    says_taken code received ≡ true → endpoint_after_packet r extra number packet ≡ Some w →
    Holds w

-- an endpoint hands over what a packet completed
abbrev pub HandsOver : Endpoint → List ℕ → List ℕ → List ℕ → ℕ → Type 0
HandsOver d out to new_to written = AreHandedOver out to new_to written (endpoint_written d)

-- an endpoint shows a packet, and is as before but for what was completed and what a call drops
abbrev pub IsSameShowing : (Endpoint → Endpoint) → List ℕ → Endpoint → Endpoint → Type 0
IsSameShowing without packet old new = without (endpoint_without_output new)
    ≡ without (endpoint_without_output (endpoint_showing packet old))
