-- The packets of what is sent, in closed form (RFC 6184, 5.6 to 5.8; RFC 7798, 4.4; RFC 9328, 4.3).
use Rattle.std.specs.Prelude.{ℕ, ◌+◌, ◌-◌, ◌*◌, ◌/◌, ◌==◌, if◌then◌else◌, List, [], ◌∷◌, ◌++◌, length, map, take, drop}
use Rattle.std.specs.List.{range_with_len}
use Rattle.h26x_model.specs.Payload.Format.{Format, donl, donl_len, fragment_header_len}
use Rattle.h26x_model.specs.Send.Plan.{Item, Alone, Together, fits_one_packet, item_units}

-- a unit with its number behind its header
abbrev pub single_packet : Format → ℕ → List ℕ → List ℕ
single_packet f n unit = take f.header_len unit ++ donl f n ++ drop f.header_len unit

-- the room behind a fragment's header
abbrev pub fragment_room : Format → ℕ → ℕ
fragment_room f limit = limit - fragment_header_len f

-- how many pieces of at most `n` bytes `len` bytes take
abbrev pub pieces_needed : ℕ → ℕ → ℕ
pieces_needed n len = (len + (n - 1)) / n

-- the number and the unit without its header: each fragment takes as much of it as it has room for
abbrev pub fragmented_bytes : Format → ℕ → List ℕ → List ℕ
fragmented_bytes f n unit = donl f n ++ drop f.header_len unit

-- how many fragments a unit takes
abbrev pub fragment_count : Format → ℕ → List ℕ → ℕ
fragment_count f limit unit = pieces_needed (fragment_room f limit)
    (donl_len f + (length unit - f.header_len))

-- what stands behind the header of the fragment at place j
abbrev pub fragment_body : Format → ℕ → ℕ → List ℕ → ℕ → List ℕ
fragment_body f n limit unit j = take (fragment_room f limit)
    (drop (j * fragment_room f limit) (fragmented_bytes f n unit))

-- the fragment at place j: the first bears the start, the last the end
abbrev pub fragment : Format → ℕ → ℕ → List ℕ → ℕ → List ℕ
fragment f n limit unit j =
    f.fragment_header unit (j == 0) (j + 1 == fragment_count f limit unit)
    ++ fragment_body f n limit unit j

-- all fragments of a unit, in order
abbrev pub fragments : Format → ℕ → ℕ → List ℕ → List (List ℕ)
fragments f n limit unit = map (fragment f n limit unit)
    (range_with_len 0 (fragment_count f limit unit))

-- the packets of an item whose first unit has number n
abbrev pub item_packets : Format → ℕ → Item → List (List ℕ)
item_packets f n (Alone limit unit) = if fits_one_packet f limit unit then single_packet f n unit ∷ []
    else fragments f n limit unit
item_packets f n (Together limit sets unit) = f.sets_packet n sets unit ∷ []

-- the packets of items, with decoding order numbers from n on
abbrev pub plan_packets : Format → ℕ → List Item → List (List ℕ)
plan_packets f n [] = []
plan_packets f n (item ∷ items) = item_packets f n item
    ++ plan_packets f (n + length (item_units item)) items
