-- What a call answers of a packet.
use Rattle.std.specs.Prelude.{◌≡◌, ℕ, List, Some, Result}
use Rattle.h26x_core.specs.declared.error.PacketError.{PacketError}
use Rattle.h26x_model.specs.Receive.DepacketizerState.{Depacketization, IsPacketOutcome}
use Rattle.h26x_receiver.specs.declared.received.Received.{Received}
use Rattle.h26x_receiver.specs.Sequenced.{SequencedDepacketization, IsSequencedAnswer}
use Rattle.h26x_codes.specs.Codes.{outcome_of, SaysAnswer}
use Rattle.h26x_handles.specs.Endpoint.{SequencedEndpoint}
use Rattle.h26x_endpoint.specs.EndpointStates.{endpoint_receiver, endpoint_at_work}
use Rattle.h26x_endpoint.specs.declared.endpoint.Endpoint.{Endpoint}

-- the code and its two numbers say an outcome, and the packet may have that one
abbrev pub IsAnswer : Depacketization → List ℕ → ℕ → ℕ → ℕ → Type 0
IsAnswer w packet code first second = (outcome : Result (Unit {0}) PacketError)
    × (outcome_of code first second ≡ Some outcome) × IsPacketOutcome w packet outcome

-- the code and its numbers say an answer, and a packet with this sequence number may have that one
abbrev pub IsSequencedCode : ℕ → SequencedDepacketization → ℕ → List ℕ → ℕ → ℕ → ℕ → ℕ → ℕ → Type 0
IsSequencedCode most s number packet code first second received count =
    (answer : Result Received PacketError)
    × SaysAnswer code first second received count answer
    × IsSequencedAnswer most s number packet answer

-- the same of the receiver behind a handle, if one stands there
abbrev pub IsReceiverCode : Endpoint → ℕ → ℕ → List ℕ → ℕ → ℕ → ℕ → ℕ → ℕ → Type 0
IsReceiverCode r extra number packet code first second received count =
    (it : SequencedEndpoint) (w : SequencedDepacketization) → endpoint_receiver r ≡ Some it →
    endpoint_at_work r extra ≡ Some w →
    IsSequencedCode it.run_limit w number packet code first second received count
