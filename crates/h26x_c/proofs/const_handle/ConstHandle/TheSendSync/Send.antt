-- The loan of an endpoint goes to another thread where threads may share the endpoint.
use denote.Param.Send.{AllSend, IsSend, owning_send, struct_send, sendable}
use denote.Struct.Owning.{fields, shape, to}
use denote.Struct.Struct.{exits_of}
use Rattle.std.specs.Prelude.{[], ◌∷◌}
use Rattle.std_alloc.proofs.SendSync.{quiet, seen}
use Rattle.h26x_endpoint.specs.contracts.endpoint.Endpoint as held
use Rattle.h26x_endpoint.proofs.endpoint.Endpoint.TheSendSync.{the_sync}
use Rattle.h26x_c.specs.contracts.const_handle.ConstHandle.{the_row, the_type}

pub send : IsSend the_row
send =
    let all : AllSend (fields the_type) = (search sendable, tt) in
    owning_send the_type all (λ h. ((λ share. tt), seen held.the_row the_sync h.ptr h.value (h.life ∷ [])))
    (λ k. quiet (to the_type) (exits_of k (fields the_type)) ((struct_send (shape the_type) all).leaving k))
