-- What becomes of a handle that lends what it holds.
use base.Fml.{Fml}
use Rattle.std.specs.Borrow.{MutBor, Lends}
use Rattle.h26x_c.specs.declared.handle.Handle.{Handle}
use Rattle.h26x_endpoint.specs.declared.endpoint.Endpoint.{Endpoint}
use Rattle.h26x_c.specs.contracts.handle.Handle as Handle
use Rattle.h26x_endpoint.specs.contracts.endpoint.Endpoint as Endpoint

-- the handle once this is what it holds
abbrev pub handle_with : Handle → Endpoint → Handle
handle_with h it = record { ptr = h.ptr; alloc = h.alloc; value = it }

-- the handle ends with the last value of what was lent
abbrev pub LendsEndpoint : MutBor Handle → MutBor Endpoint → Fml
LendsEndpoint h lent = Lends Handle.the_row Endpoint.the_row h lent (handle_with h.now)
