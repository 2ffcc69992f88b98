-- The header of an aggregate by its units (RFC 7798, 4.4.2), where the packetizer's own is that of
-- the unit behind them.
use Rattle.std.specs.Prelude.{◌≡◌, ℕ, ◌+◌, ◌*◌, ◌/◌, ◌%◌, ◌≤◌, min, nat_le, Bool, true, false, ◌&&◌, ◌==◌, if◌then◌else◌, List, [], ◌∷◌, length, map, drop, slice_index}
use Rattle.std.specs.List.{list_any, AllByRecursion}
use Rattle.h26x_core.specs.Word.{flag}
use Rattle.h26x_core.specs.H265Unit.{is_forbidden, type_of, layer_id, temporal_id}
use Rattle.h26x_model.specs.Payload.TwoBytes.{two_byte_detects}
use Rattle.h26x_model.specs.Send.Calls.{Call, AreCalls}
use Rattle.h26x_model.specs.Send.PacketizerState.{PacketizerState, calls_packets}
use Rattle.h26x_model.specs.Carry.Laws.{AreCallsCarried}
use Rattle.h26x_model.specs.Receive.DepacketizerState.{Depacketization, after_packets}
use Rattle.h265_payload.specs.H265.{read, h265_header}
use Rattle.h265_payload.specs.Shown.{units_in}

abbrev pub has_forbidden_bit : List ℕ → Bool  -- whether F is set
has_forbidden_bit [] = false
has_forbidden_bit (high ∷ unit) = is_forbidden high

abbrev pub layer_of : List ℕ → ℕ  -- the layer of a unit
layer_of (high ∷ low ∷ unit) = layer_id high low
layer_of unit = 0

abbrev pub temporal_of : List ℕ → ℕ  -- the temporal id of a unit
temporal_of (high ∷ low ∷ unit) = temporal_id low
temporal_of unit = 0

-- the lowest value over units, of values that are at most so much
abbrev pub lowest : ℕ → (List ℕ → ℕ) → List (List ℕ) → ℕ
lowest most value [] = most
lowest most value (unit ∷ units) = min (value unit) (lowest most value units)

abbrev pub lowest_layer : List (List ℕ) → ℕ  -- a layer has six bits
lowest_layer units = lowest 63 layer_of units

abbrev pub lowest_temporal : List (List ℕ) → ℕ  -- a temporal id has three
lowest_temporal units = lowest 7 temporal_of units

-- the header of an aggregate of these units: F where a unit has it, type 48, the lowest layer and
-- the lowest temporal id
abbrev pub lowest_high : List (List ℕ) → ℕ
lowest_high units = flag (list_any has_forbidden_bit units) 0x80 + 48 * 2 + lowest_layer units / 32

abbrev pub lowest_low : List (List ℕ) → ℕ
lowest_low units = lowest_layer units % 32 * 8 + lowest_temporal units

-- the units that stand whole behind a packet's header and DONL
abbrev pub units_carried : Bool → List ℕ → List (List ℕ)
units_carried has_donl packet = units_in has_donl (drop (if has_donl then 3 else 2) packet)

-- whether a packet is an aggregate of two units or more
abbrev pub is_whole_aggregate : Bool → List ℕ → Bool
is_whole_aggregate has_donl [] = false
is_whole_aggregate has_donl (high ∷ rest) =
    type_of high == 48 && nat_le 2 (length (units_carried has_donl (high ∷ rest)))

-- a packet, where it is such an aggregate with that header
abbrev pub with_lowest_header : Bool → List ℕ → List ℕ
with_lowest_header has_donl packet = if is_whole_aggregate has_donl packet
    then lowest_high (units_carried has_donl packet) ∷ lowest_low (units_carried has_donl packet) ∷
    drop 2 packet else packet

-- a number is the value of a unit, and no unit has a lower one
pub record IsLowest (value : List ℕ → ℕ) (units : List (List ℕ)) (n : ℕ) : Type 0 where
  pub there : list_any (λ unit. value unit == n) units ≡ true
  pub least : AllByRecursion (λ unit. n ≤ value unit) units

-- A header is that of an aggregate of these units (RFC 7798, 4.4.2): F is set if it is of a unit,
-- the type is 48, and the layer and the temporal id are the lowest of all units.
pub record IsLowestHeader (units : List (List ℕ)) (high low : ℕ) : Type 0 where
  pub forbidden : is_forbidden high ≡ list_any has_forbidden_bit units
  pub type : type_of high ≡ 48
  pub layer : IsLowest layer_of units (layer_id high low)
  pub temporal : IsLowest temporal_of units (temporal_id low)

-- An aggregate with that header has it by its units, and all behind it is as before.
pub record IsHeadedByUnits (has_donl : Bool) (packet : List ℕ) : Type 0 where
  pub header : is_whole_aggregate has_donl packet ≡ true →
      IsLowestHeader (units_carried has_donl packet)
      (slice_index (with_lowest_header has_donl packet) 0)
      (slice_index (with_lowest_header has_donl packet) 1)
  pub behind : drop 2 (with_lowest_header has_donl packet) ≡ drop 2 packet
  pub len : length (with_lowest_header has_donl packet) ≡ length packet
  pub other : is_whole_aggregate has_donl packet ≡ false →
      with_lowest_header has_donl packet ≡ packet

-- A packet with that header is read as before: where F is set in its header as it is in its units,
-- whatever its bytes.
abbrev pub IsReadAlike : Bool → ℕ → ℕ → List ℕ → Type 0
IsReadAlike has_donl high low rest =
    is_forbidden high ≡ list_any has_forbidden_bit (units_carried has_donl (high ∷ low ∷ rest)) →
    read has_donl (with_lowest_header has_donl (high ∷ low ∷ rest))
    ≡ read has_donl (high ∷ low ∷ rest)

-- and a keyframe is detected in it as before
abbrev pub IsDetectedAlike : Bool → ℕ → ℕ → List ℕ → Type 0
IsDetectedAlike has_donl high low rest =
    two_byte_detects h265_header (with_lowest_header has_donl (high ∷ low ∷ rest))
    ≡ two_byte_detects h265_header (high ∷ low ∷ rest)

-- packets with that header
abbrev pub with_lowest_headers : Bool → List (List ℕ) → List (List ℕ)
with_lowest_headers has_donl packets = map (with_lowest_header has_donl) packets

-- What stands at a depacketizer after packets with that header is what stands there after them
-- without it.
abbrev pub AreTakenAlike : Bool → Depacketization → List (List ℕ) → Type 0
AreTakenAlike has_donl w packets =
    after_packets w (with_lowest_headers has_donl packets) ≡ after_packets w packets

-- those that calls send, where packets can carry their units
abbrev pub CallsAreTakenAlike : Bool → PacketizerState → Depacketization → List Call → Type 0
CallsAreTakenAlike has_donl s w calls = AreCalls calls → AreCallsCarried s calls →
    AreTakenAlike has_donl w (calls_packets s calls)
