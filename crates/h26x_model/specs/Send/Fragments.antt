-- The fragments of a unit, place by place (RFC 6184, 5.8; RFC 7798, 4.4.3; RFC 9328, 4.3.3).
use Rattle.std.specs.Prelude.{◌≡◌, ℕ, ◌+◌, ◌-◌, ◌*◌, ◌<◌, ◌≤◌, false, ◌==◌, ◌&&◌, if◌then◌else◌, List, ◌++◌, length, take, drop, None}
use Rattle.std.specs.List.{flat_map, range_with_len}
use Rattle.h26x_model.specs.Payload.Reading.{Fragment}
use Rattle.h26x_model.specs.Payload.Format.{Format, donl, donl_len, fragment_header_len, has_s_bit, has_e_bit}
use Rattle.h26x_model.specs.Send.Plan.{Alone, is_dropped}
use Rattle.h26x_model.specs.Send.Packets.{fragment_room, fragment, fragments, fragment_count, fragment_body, item_packets}
use Rattle.h26x_model.specs.Send.Rival.{IsRival}
use Rattle.h26x_model.specs.Payload.Don.{don_sent}

-- the data of the fragment at place j: the first leaves room for the number
abbrev pub fragment_data : Format → ℕ → List ℕ → ℕ → List ℕ
fragment_data f limit unit j =
    if j == 0 then take (fragment_room f limit - donl_len f) (drop f.header_len unit)
    else take (fragment_room f limit) (drop ((fragment_room f limit - donl_len f)
    + (j - 1) * fragment_room f limit)
    (drop f.header_len unit))

-- The fragments of a unit: at least two; the first bears the number before its data, which stand
-- where those of the fragments before it end; each but the last is full; joined, the data are the
-- unit without its header.
pub record AreFragments (f : Format) (n limit : ℕ) (unit : List ℕ) : Type 0 where
  pub two : 2 ≤ fragment_count f limit unit
  pub first : fragment_body f n limit unit 0 ≡ donl f n ++ fragment_data f limit unit 0
  pub later : (j : ℕ) → 0 < j → fragment_body f n limit unit j ≡ fragment_data f limit unit j
  pub full : (j : ℕ) → j + 1 < fragment_count f limit unit → length (fragment_body f n limit unit j)
      ≡ fragment_room f limit
  pub some : (j : ℕ) → j < fragment_count f limit unit → 0 < length (fragment_data f limit unit j)
  pub joined : flat_map (fragment_data f limit unit)
      (range_with_len 0 (fragment_count f limit unit)) ≡ drop f.header_len unit

-- Each is read as a fragment of the unit's header and its data: the first alone bears the start and
-- the number, the last alone the end.
abbrev pub ReadsFragments : Format → ℕ → ℕ → List ℕ → Type 0
ReadsFragments f n limit unit = (j : ℕ) → j < fragment_count f limit unit →
    f.read (fragment f n limit unit j)
    ≡ Fragment (j == 0) (j + 1 == fragment_count f limit unit) (take f.header_len unit) (if j == 0
    then don_sent f n else None) (fragment_data f limit unit j)

-- By their bytes: the first alone bears the start, the last alone the end, none both; there are at
-- least two.
pub record AreMarked (f : Format) (n limit : ℕ) (unit : List ℕ) : Type 0 where
  pub two : 2 ≤ fragment_count f limit unit
  pub start : (j : ℕ) → j < fragment_count f limit unit → has_s_bit f (fragment f n limit unit j)
      ≡ (j == 0)
  pub end : (j : ℕ) → j < fragment_count f limit unit → has_e_bit f (fragment f n limit unit j)
      ≡ (j + 1 == fragment_count f limit unit)
  pub apart : (j : ℕ) → j < fragment_count f limit unit → (has_s_bit f (fragment f n limit unit j)
      && has_e_bit f (fragment f n limit unit j)) ≡ false

-- a unit that is longer, with its number, than its limit, which leaves a fragment room for data
pub record IsLong (f : Format) (limit : ℕ) (unit : List ℕ) : Type 0 where
  pub room : fragment_header_len f + donl_len f < limit
  pub long : limit < length unit + donl_len f

-- It goes in these fragments: each but the last is as long as the limit, none is longer, and no rival
-- has fewer.
pub record GoesInFragments (f : Format) (n limit : ℕ) (unit : List ℕ) : Type 0 where
  pub sent : item_packets f n (Alone limit unit) ≡ fragments f n limit unit
  pub are : AreFragments f n limit unit
  pub marked : AreMarked f n limit unit
  pub full : (j : ℕ) → j + 1 < fragment_count f limit unit → length (fragment f n limit unit j)
      ≡ limit
  pub within : (j : ℕ) → length (fragment f n limit unit j) ≤ limit
  pub fewest : (rival : List (List ℕ)) → IsRival f limit (drop f.header_len unit) rival →
      fragment_count f limit unit ≤ length rival

-- From this limit on a fragment has room for data: only sets are dropped for size, and each longer
-- unit is long.
pub record HasRoomFrom (f : Format) (least : ℕ) : Type 0 where
  pub dropped : (limit : ℕ) (unit : List ℕ) → least ≤ limit → is_dropped f limit unit ≡ false
  pub long : (limit : ℕ) (unit : List ℕ) → least ≤ limit → limit < length unit + donl_len f →
      IsLong f limit unit
