-- What sets the payload formats of H.264, H.265 and H.266 apart.
use Rattle.std.specs.Prelude.{◌≡◌, ℕ, ◌+◌, ◌%◌, ◌≤◌, Bool, true, if◌then◌else◌, List, [], slice_index}
use Rattle.h26x_core.specs.declared.extra.CodecExtra.{CodecExtra}
use Rattle.h26x_core.specs.Word.{word, is_set}
use Rattle.h26x_core.specs.Kind.{Kind}
use Rattle.h26x_model.specs.Payload.Reading.{Reading}

-- one payload format
pub record Format : Type 0 where
  -- the units of a payload
  pub units : List ℕ → List (List ℕ)
  -- what a unit is to a packetizer, and whether it is of a key type
  pub kind : List ℕ → Kind
  pub is_key : List ℕ → Bool
  -- the mtu under which a call has no effect, and whether a packetizer's largest packet size limits
  -- it too
  pub least_mtu : ℕ
  pub has_max_packet_size : Bool
  -- the bytes of a unit's header
  pub header_len : ℕ
  -- whether packets may bear decoding order numbers, and whether they do
  pub may_have_donl : Bool
  pub has_donl : Bool
  -- whether parameter sets fit one packet
  pub sets_fit : ℕ → List (List ℕ) → Bool
  -- the packet of parameter sets before a unit, the first of them with this number
  pub sets_packet : ℕ → List (List ℕ) → List ℕ → List ℕ
  -- what stands before a fragment's number and data: of this unit, the first or not, the last or
  -- not
  pub fragment_header : List ℕ → Bool → Bool → List ℕ
  pub read : List ℕ → Reading
  -- whether packets can carry a unit so that it is read back
  pub carries : List ℕ → Bool
  -- what a depacketizer tells of key units, and whether it has told of one
  pub extra : Bool → CodecExtra
  pub has_key : CodecExtra → Bool
  -- whether a packet is known to hold a key unit, or to begin one
  pub detects : List ℕ → Bool

-- a limit that a call can have: a largest packet size is a number of two bytes
abbrev pub IsLimit : Format → ℕ → Type 0
IsLimit f limit = f.has_max_packet_size ≡ true → limit ≤ 65535

-- the two bytes of a number, where packets bear numbers
abbrev pub donl_bytes : Bool → ℕ → List ℕ
donl_bytes has_donl n = if has_donl then word (n % 65536) else []

-- how many bytes a number takes
abbrev pub donl_len : Format → ℕ
donl_len f = if f.has_donl then 2 else 0

-- the bytes of a number
abbrev pub donl : Format → ℕ → List ℕ
donl f n = donl_bytes f.has_donl n

-- what a fragment has before its number and data: a packet's header and a byte of its own
abbrev pub fragment_header_len : Format → ℕ
fragment_header_len f = f.header_len + 1

-- the S bit of a fragment, in the byte behind the packet's header
abbrev pub has_s_bit : Format → List ℕ → Bool
has_s_bit f packet = is_set (slice_index packet f.header_len) 7

-- its E bit
abbrev pub has_e_bit : Format → List ℕ → Bool
has_e_bit f packet = is_set (slice_index packet f.header_len) 6
