-- Several units that go in one packet.
use Rattle.std.specs.Prelude.{◌≡◌, ℕ, ◌-◌, ◌≤◌, Bool, List, length, None}
use Rattle.h26x_model.specs.Payload.Format.{Format}
use Rattle.h26x_packetizer.specs.declared.packing.Packing.{Packing}
use Rattle.h26x_packetizer.specs.Group.{may_share, fitting}
use Rattle.h26x_packetizer.specs.Refusal.{units_refusal}

-- two units or more of which each can go and may share a packet, and that all fit the room of one
pub record GoInOne (f : Format) (packing : Packing) (is_slice : List ℕ → Bool) (start each limit : ℕ)
    (units : List (List ℕ)) : Type 0 where
  pub several : 2 ≤ length units
  pub go : units_refusal f packing limit 0 units ≡ None
  pub fit : fitting (may_share packing is_slice) each (limit - start) units ≡ length units
