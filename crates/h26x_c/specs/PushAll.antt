-- Many packets in one call.
use Rattle.std.specs.Prelude.{◌≡◌, ℕ, Bool, true, List, length, map, Some}
use Rattle.std.specs.List.{list_all}
use Rattle.h26x_model.specs.Where.{Where}
use Rattle.h26x_endpoint.specs.EndpointStates.{endpoint_units}
use Rattle.h26x_endpoint.specs.declared.endpoint.Endpoint.{Endpoint}
use Rattle.h26x_handles.specs.Payloads.{is_within, packet_in}
use Rattle.h26x_handles.specs.PushAll.{AreToldPushed}
use Rattle.h26x_handles.specs.UnitsState.{UnitsState}
use Rattle.h26x_handles.specs.declared.payloads.RtpPayload.{RtpPayload}
use Rattle.h26x_handles.specs.declared.push_all.PushTold.{PushTold}

-- whether each payload lies in the buffer
abbrev pub lie_within : List ℕ → List RtpPayload → Bool
lie_within bytes payloads = list_all (is_within (length bytes)) payloads

-- where they do, the packets were pushed to an endpoint that receives access units, one after the other
abbrev pub ArePushedTo : ℕ → List ℕ → List RtpPayload → Endpoint → Endpoint → List PushTold →
    List PushTold → ℕ → ℕ → Type 0
ArePushedTo now bytes payloads old new told new_told code taken = Where (endpoint_units old)
    (λ it. lie_within bytes payloads ≡ true → (next : UnitsState)
    × (endpoint_units new ≡ Some next)
    × AreToldPushed now (map (packet_in bytes) payloads) it next told new_told code taken)
