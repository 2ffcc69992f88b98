-- What becomes of packets where the bytes of their buffer are written.
use base.Fml.{Fml}
use Rattle.std.specs.Prelude.{ℕ, ◌+◌, List, [], ◌∷◌, ◌++◌, length, take, drop}
use Rattle.std.specs.Borrow.{MutBor, Lends, Array, u8}
use Rattle.h26x_packetizer.specs.Buffer.{PacketBufferView}
use Rattle.h26x_packetizer.specs.contracts.buffer.PacketBuffer as PacketBuffer

-- a part with these bytes over its own, from its first on
abbrev pub part_under : List ℕ → List ℕ → List ℕ
part_under part bytes = take (length part) (bytes ++ drop (length bytes) part)

-- packets with these bytes over theirs, where the first of them begins with its headroom at a place
abbrev pub packets_under : ℕ → ℕ → List ℕ → List (List ℕ) → List (List ℕ)
packets_under headroom start bytes [] = []
packets_under headroom start bytes (packet ∷ packets) =
    part_under packet (drop (start + headroom) bytes)
    ∷ packets_under headroom (start + headroom + length packet) bytes packets

-- their headrooms, under these bytes too
abbrev pub headrooms_under : ℕ → ℕ → List ℕ → List (List ℕ) → List (List ℕ) → List (List ℕ)
headrooms_under headroom start bytes (packet ∷ packets) (room ∷ rooms) =
    part_under room (drop start bytes)
    ∷ headrooms_under headroom (start + headroom + length packet) bytes packets rooms
headrooms_under headroom start bytes packets rooms = []

-- a buffer with these bytes over its own
abbrev pub buffer_under : PacketBufferView → List ℕ → PacketBufferView
buffer_under buffer bytes = record buffer {
  packets = packets_under buffer.headroom 0 bytes buffer.packets;
  headrooms = headrooms_under buffer.headroom 0 bytes buffer.packets buffer.headrooms;
}

-- the buffer ends with the last bytes of what was lent
abbrev pub LendsBytes : MutBor PacketBufferView → MutBor (List ℕ) → Fml
LendsBytes buffer lent = Lends PacketBuffer.the_row (Array u8 0) buffer lent (buffer_under buffer.now)
