-- A unit that is fragmented takes the fewest fragments that there could be.
use Rattle.std.specs.Prelude.{◌≡◌, ℕ, ◌≤◌, true, false, List, [], ◌∷◌, length, drop}
use Rattle.std.specs.List.{AllByRecursion, flat_map}
use Rattle.h26x_model.specs.Payload.Reading.{IsFragment, body_of, is_start}
use Rattle.h26x_model.specs.Payload.Format.{Format}
use Rattle.h26x_model.specs.Send.Plan.{fits_one_packet, is_dropped}
use Rattle.h26x_model.specs.Send.Packets.{fragment_count}

-- the first of the packets is a start
abbrev pub FirstStarts : Format → List (List ℕ) → Type 0
FirstStarts f [] = ⊥
FirstStarts f (packet ∷ packets) = is_start (f.read packet) ≡ true

-- A rival: packets within the limit that carry these bytes as fragments do, the first with a start.
-- It need not be a list that a depacketizer could put together.
pub record IsRival (f : Format) (limit : ℕ) (bytes : List ℕ) (packets : List (List ℕ)) : Type 0
  where
    pub within : AllByRecursion (λ packet. length packet ≤ limit) packets
    pub each : AllByRecursion (λ packet. IsFragment (f.read packet)) packets
    pub first : FirstStarts f packets
    pub joined : flat_map (λ packet. body_of (f.read packet)) packets ≡ bytes

-- no rival of a unit that is fragmented has fewer packets than the packetizer
abbrev pub TakesFewestFragments : Format → Type 0
TakesFewestFragments f = (limit : ℕ) (unit : List ℕ) (packets : List (List ℕ)) →
    fits_one_packet f limit unit ≡ false → is_dropped f limit unit ≡ false →
    IsRival f limit (drop f.header_len unit) packets →
    fragment_count f limit unit ≤ length packets
