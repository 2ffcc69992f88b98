-- A handle goes to another thread with the endpoint that it owns, and the right to free its block.
use denote.Memory.{lone}
use denote.Param.Send.{AllSend, IsSend, owning_send, sendable, struct_send}
use denote.Struct.Owning.{fields, shape, to}
use denote.Struct.Struct.{exits_of}
use mir.Raw.{raw}
use Rattle.std.proofs.Crossing as heap
use Rattle.std_alloc.proofs.SendSync.{lies, quiet}
use Rattle.std_heap.proofs.Global.TheSendSync as allocator
use Rattle.h26x_endpoint.specs.contracts.endpoint.Endpoint as held
use Rattle.h26x_endpoint.proofs.endpoint.Endpoint.TheSendSync.{the_send}
use Rattle.h26x_c.specs.contracts.handle.Handle.{the_row, the_type}

pub send : IsSend the_row
send =
    let both : AllSend (fields the_type) = (search sendable, (allocator.the_field_send, tt)) in
    owning_send the_type both
    (λ h. (lies held.the_row the_send h.ptr h.value, heap.frees.frees h.alloc (raw (lone held.the_row.mir)) h.ptr))
    (λ k. quiet (to the_type) (exits_of k (fields the_type)) ((struct_send (shape the_type) both).leaving k))
