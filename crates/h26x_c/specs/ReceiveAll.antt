-- Many packets with their sequence numbers in one call.
use Rattle.std.specs.Prelude.{◌≡◌, ℕ, true, List, map, Some}
use Rattle.h26x_model.specs.Where.{Where}
use Rattle.h26x_endpoint.specs.EndpointStates.{endpoint_receiver}
use Rattle.h26x_endpoint.specs.declared.endpoint.Endpoint.{Endpoint}
use Rattle.h26x_handles.specs.Endpoint.{SequencedEndpoint}
use Rattle.h26x_handles.specs.Payloads.{numbered_in}
use Rattle.h26x_handles.specs.ReceiveAll.{AreToldReceived}
use Rattle.h26x_handles.specs.declared.payloads.RtpPayload.{RtpPayload}
use Rattle.h26x_handles.specs.declared.receive_all.ReceivedTold.{ReceivedTold}
use Rattle.h26x_c.specs.PushAll.{lie_within}

-- where payloads lie in the buffer, an endpoint that receives packets with their sequence numbers
-- received them, one after the other
abbrev pub AreReceivedBy : List ℕ → List RtpPayload → Endpoint → List ℕ → List ReceivedTold →
    Endpoint → List ℕ → List ReceivedTold → ℕ → ℕ → ℕ → Type 0
AreReceivedBy bytes payloads old to told new new_to new_told code taken written =
    Where (endpoint_receiver old) (λ it. lie_within bytes payloads ≡ true →
    (next : SequencedEndpoint) × (endpoint_receiver new ≡ Some next)
    × AreToldReceived (map (numbered_in bytes) payloads) it to told next new_to new_told
    (record { code = code; taken = taken; written = written }))
