-- Redundant payloads (RFC 2198, 3), which also bear FEC (RFC 5109, 14.2).
use Rattle.std.specs.Prelude.{◌≡◌, ℕ, ◌+◌, ◌*◌, ◌/◌, ◌%◌, ◌<◌, nat_lt, if◌then◌else◌, List, [], ◌∷◌, ◌++◌, length, take, drop, slice_index, Option, Some, None, Result, Ok, Err}
use Rattle.std.specs.Option.{option_map}
use Rattle.std.specs.List.{flat_map, AllByRecursion}
use Rattle.h26x_rtp.specs.declared.red.RedError.{RedError}
use Rattle.h26x_rtp.specs.declared.red.RedError.TheVariants.{HeadersPastTheEnd, BlocksPastTheEnd}

-- a block before the primary one: its payload type, how much earlier its timestamp is, and its bytes
-- (RFC 2198, 3)
pub record BlockParts : Type 0 where
  pub payload_type : ℕ
  pub offset : ℕ
  pub bytes : List ℕ

-- a redundant payload: the blocks before the primary one, and this (RFC 2198, 3)
pub record RedParts : Type 0 where
  pub blocks : List BlockParts
  pub payload_type : ℕ
  pub primary : List ℕ

-- a block's header: F set, 7 bits of payload type, 14 of the offset, 10 of the length (RFC 2198, 3)
abbrev pub block_header : BlockParts → List ℕ
block_header it = (128 + it.payload_type) ∷ it.offset / 64
    ∷ (it.offset % 64 * 4 + length it.bytes / 256) ∷ length it.bytes % 256 ∷ []

abbrev pub block_bytes : BlockParts → List ℕ
block_bytes it = it.bytes

-- the whole payload: the headers, that of the primary block with F clear, and the blocks (RFC 2198,
-- 3)
abbrev pub red_bytes : RedParts → List ℕ
red_bytes it = flat_map block_header it.blocks
    ++ (it.payload_type ∷ (flat_map block_bytes it.blocks ++ it.primary))

-- what has a place in it (RFC 2198, 3)
pub record BlockFits (it : BlockParts) : Type 0 where
  pub payload_type : it.payload_type < 128
  pub offset : it.offset < 16384
  pub bytes : length it.bytes < 1024

pub record RedFits (it : RedParts) : Type 0 where
  pub blocks : AllByRecursion BlockFits it.blocks
  pub payload_type : it.payload_type < 128

-- the bytes are this redundant payload
pub record IsRed (bytes : List ℕ) (it : RedParts) : Type 0 where
  pub spelled : bytes ≡ red_bytes it
  pub fits : RedFits it

-- how many bytes the headers before that of the primary block have: four each, up to the first with F
-- clear (RFC 2198, 3)
abbrev pub headers_end : List ℕ → Option ℕ
headers_end [] = None
headers_end (first ∷ second ∷ third ∷ fourth ∷ bytes) =
    if nat_lt first 128 then Some 0 else option_map (λ end. 4 + end) (headers_end bytes)
headers_end (first ∷ bytes) = if nat_lt first 128 then Some 0 else None

-- how many bytes the blocks of headers have
abbrev pub blocks_size : List ℕ → ℕ
blocks_size (first ∷ second ∷ third ∷ fourth ∷ headers) =
    (third % 4 * 256 + fourth) + blocks_size headers
blocks_size headers = 0

-- the blocks of headers
abbrev pub blocks_in : List ℕ → List ℕ → List BlockParts
blocks_in (first ∷ second ∷ third ∷ fourth ∷ headers) bytes = (record {
  payload_type = first % 128;
  offset = second * 64 + third / 4;
  bytes = take (third % 4 * 256 + fourth) bytes;
}) ∷ blocks_in headers (drop (third % 4 * 256 + fourth) bytes)
blocks_in headers bytes = []

-- what bytes are read as, by their headers and what stands behind that of the primary block
abbrev pub red_of_parts : List ℕ → ℕ → List ℕ → Result RedParts RedError
red_of_parts headers payload_type bytes =
    if nat_lt (length bytes) (blocks_size headers) then Err BlocksPastTheEnd
    else Ok (record {
      blocks = blocks_in headers bytes;
      payload_type = payload_type;
      primary = drop (blocks_size headers) bytes;
    })

abbrev pub red_at : List ℕ → Option ℕ → Result RedParts RedError
red_at bytes None = Err HeadersPastTheEnd
red_at bytes (Some end) =
    red_of_parts (take end bytes) (slice_index bytes end) (drop (end + 1) bytes)

-- what bytes are read as, or their first fault (RFC 2198, 3)
abbrev pub red_of : List ℕ → Result RedParts RedError
red_of bytes = red_at bytes (headers_end bytes)
