-- What a handle owns: what a box of its end does, or a loan of one.
use base.Fml.{Share, Fml, ftrue, fsep, fex, flft}
use base.Stored.{Coded}
use denote.RawPtr.{Ptr}
use denote.Struct.Lending.{lent_at}
use Rattle.std.specs.Prelude.{ℕ, [], ◌∷◌, Option, Some, None}
use Rattle.std.specs.Box.Ownership.{box_owns}
use Rattle.std.specs.Global.{Global}
use Rattle.std.specs.Coded.{coded_option}
use Rattle.std_heap.specs.contracts.GlobalAllocator.TheImpl.{ghosts}
use Rattle.h26x_endpoint.specs.contracts.endpoint.Endpoint as Endpoint

abbrev pub endpoint_owned : Global → Ptr → Endpoint.the_row.Denot → Fml
endpoint_owned alloc = box_owns (ghosts.dealloc_token alloc) Endpoint.the_row

-- who may look at an end has it on loan for a lifetime, and a share of that one's token
abbrev pub endpoint_lent : ℕ → Ptr → Endpoint.the_row.Denot → Fml
endpoint_lent life p end = fsep (fex Share (λ share. flft (life ∷ []) share))
    (lent_at Endpoint.the_row p end (life ∷ []))

abbrev pub endpoint_coded : Coded Endpoint.the_row.Denot
endpoint_coded = Endpoint.the_row.coded

-- a place owns nothing before a handle was written into it
abbrev pub place_owned : Global → Ptr → Option Endpoint.the_row.Denot → Fml
place_owned alloc p None = ftrue
place_owned alloc p (Some it) = endpoint_owned alloc p it

abbrev pub place_coded : Coded (Option Endpoint.the_row.Denot)
place_coded = coded_option Endpoint.the_row.coded
