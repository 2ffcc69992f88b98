-- Packets of which some are missing, where a depacketizer's open run is given up at each that is: the
-- sequence numbers of RTP packets show it (RFC 3550, 5.1; ours).
use Rattle.std.specs.Prelude.{◌≡◌, ℕ, ◌+◌, ◌-◌, ◌*◌, nat_le, Bool, true, false, ◌&&◌, ◌||◌, if◌then◌else◌, List, [], ◌∷◌, ◌++◌, length, take, drop}
use Rattle.std.specs.List.{flat_map, list_all}
use Rattle.h26x_core.specs.ByteStream.{byte_stream}
use Rattle.h26x_model.specs.Payload.Format.{Format, donl_len}
use Rattle.h26x_model.specs.Payload.Extra.{extra_after}
use Rattle.h26x_model.specs.Send.Calls.{Call}
use Rattle.h26x_model.specs.Send.Plan.{Item, Alone, Together, fits_one_packet, item_units}
use Rattle.h26x_model.specs.Send.Packets.{fragment_room, fragment_count, item_packets}
use Rattle.h26x_model.specs.Send.PacketizerState.{PacketizerState, calls_plan, calls_packets}
use Rattle.h26x_model.specs.Receive.DepacketizerState.{Depacketization, after_packets}
use Rattle.h26x_model.specs.Receive.RunLimit.{without_open_run, with_run_within}

-- What stands after those packets that a mask keeps, where the run is given up at each packet that
-- is missing, and where it holds more bytes than this.
abbrev pub after_kept_packets : ℕ → Depacketization → List Bool → List (List ℕ) → Depacketization
after_kept_packets most w (true ∷ mask) (packet ∷ packets) = after_kept_packets most
    (with_run_within most (after_packets w (packet ∷ []))) mask packets
after_kept_packets most w (false ∷ mask) (packet ∷ packets) = after_kept_packets most
    (without_open_run w) mask packets
after_kept_packets most w mask packets = w

-- whether a run may hold what it has to of an item: of a unit in fragments the data of all but the
-- last
abbrev pub run_may_hold : Format → ℕ → Item → Bool
run_may_hold f most (Alone limit unit) = fits_one_packet f limit unit
    || nat_le ((fragment_count f limit unit - 1) * fragment_room f limit - donl_len f) most
run_may_hold f most (Together limit sets unit) = true

-- the items all of whose packets a mask keeps, and that a run may hold
abbrev pub whole_items : Format → ℕ → ℕ → List Item → List Bool → List Item
whole_items f most n [] mask = []
whole_items f most n (item ∷ items) mask =
    (if list_all (λ b. b) (take (length (item_packets f n item)) mask) && run_may_hold f most item
    then item ∷ [] else [])
    ++ whole_items f most (n + length (item_units item)) items
    (drop (length (item_packets f n item)) mask)

-- the units of these items of what calls send, where a mask says which of their packets came
abbrev pub whole_units : ℕ → PacketizerState → List Call → List Bool → List (List ℕ)
whole_units most s calls mask = flat_map item_units
    (whole_items s.format most s.next_don (calls_plan s calls) mask)

-- These units are written and told, and nothing else: none of which a part is missing.
pub record WritesWholeUnits (most : ℕ) (s : PacketizerState) (w : Depacketization)
    (calls : List Call) (mask : List Bool) : Type 0 where
  pub written : (after_kept_packets most w mask (calls_packets s calls)).out
      ≡ w.out ++ byte_stream w.state.is_avc (whole_units most s calls mask)
  pub told : (after_kept_packets most w mask (calls_packets s calls)).extra
      ≡ extra_after w.state.format w.extra (whole_units most s calls mask)
