-- Packets behind each other in one buffer.
use Rattle.std.specs.Prelude.{◌≡◌, ℕ, zero, suc, ◌+◌, ◌-◌, ◌*◌, ◌≤◌, max, List, [], ◌∷◌, ◌++◌, length, map, replicate, take, drop}
use Rattle.std.specs.List.{between, sum_by}
use Rattle.h26x_packetizer.specs.declared.buffer.memory.BufferMemory.{BufferMemory}

-- what a buffer holds: packets, what stands in the headroom before each, and how many bytes that is;
-- and for how much it has memory
pub record PacketBufferView : Type 0 where
  pub packets : List (List ℕ)
  pub headrooms : List (List ℕ)
  pub headroom : ℕ
  pub memory : BufferMemory

-- the packets that end at these places of bytes, each behind its headroom, from this place on
abbrev pub packets_from : ℕ → ℕ → List ℕ → List ℕ → List (List ℕ)
packets_from headroom start bytes [] = []
packets_from headroom start bytes (end ∷ ends) = between (start + headroom) end bytes
    ∷ packets_from headroom end bytes ends

-- the headrooms of these packets
abbrev pub headrooms_from : ℕ → ℕ → List ℕ → List ℕ → List (List ℕ)
headrooms_from headroom start bytes [] = []
headrooms_from headroom start bytes (end ∷ ends) = between start (start + headroom) bytes
    ∷ headrooms_from headroom end bytes ends

-- the packets that end at these places of bytes, and their headrooms, in so much memory
abbrev pub buffer_of : ℕ → List ℕ → List ℕ → BufferMemory → PacketBufferView
buffer_of headroom bytes ends memory = record {
  packets = packets_from headroom 0 bytes ends;
  headrooms = headrooms_from headroom 0 bytes ends;
  headroom = headroom;
  memory = memory;
}

-- how many bytes packets take, each behind its headroom
abbrev pub packets_len : ℕ → List (List ℕ) → ℕ
packets_len headroom packets = sum_by (λ packet. headroom + length packet) packets

-- memory that took in packets, each behind its headroom: for twice as much at most, with eight packets
-- more, or for as much as before
pub record IsMemoryFor (headroom : ℕ) (packets : List (List ℕ)) (old new : BufferMemory) : Type 0 where
  pub bytes : new.bytes ≤ max old.bytes (2 * packets_len headroom packets)
  pub ends : new.ends ≤ max old.ends (2 * (length packets + 8))

-- the last of these ends
abbrev pub last_end : ℕ → List ℕ → ℕ
last_end start [] = start
last_end start (end ∷ ends) = last_end end ends

-- each packet ends behind its headroom
abbrev pub ArePacketEnds : ℕ → ℕ → List ℕ → Type 0
ArePacketEnds headroom start [] = Unit {0}
ArePacketEnds headroom start (end ∷ ends) = (start + headroom ≤ end) × ArePacketEnds headroom end
    ends

-- the bytes of packets that end at these places, and no others
pub record IsBuffer (headroom : ℕ) (bytes ends : List ℕ) : Type 0 where
  pub in_order : ArePacketEnds headroom 0 ends
  pub to_the_end : last_end 0 ends ≡ length bytes

-- where packets end that stand behind each other from this place on, each behind its headroom
abbrev pub packet_ends : ℕ → ℕ → List (List ℕ) → List ℕ
packet_ends headroom start [] = []
packet_ends headroom start (packet ∷ packets) = (start + headroom + length packet)
    ∷ packet_ends headroom (start + headroom + length packet) packets

-- bytes in which these headrooms stand, each before one of these packets
abbrev pub HoldHeadrooms : ℕ → List (List ℕ) → List (List ℕ) → List ℕ → Type 0
HoldHeadrooms headroom packets headrooms bytes =
    headrooms_from headroom 0 bytes (packet_ends headroom 0 packets) ≡ headrooms

-- bytes in which these packets stand behind each other, each behind its headroom, and nothing else
pub record HoldPackets (headroom : ℕ) (packets : List (List ℕ)) (bytes : List ℕ) : Type 0 where
  pub there : packets_from headroom 0 bytes (packet_ends headroom 0 packets) ≡ packets
  pub to_the_end : last_end 0 (packet_ends headroom 0 packets) ≡ length bytes

-- a buffer to which packets are appended: as it was before, and the packets since
pub record AppendedView : Type 0 where
  pub before : PacketBufferView
  pub after : List (List ℕ)

-- so many packets of a buffer, from its first on, with their headrooms
abbrev pub first_packets : ℕ → PacketBufferView → PacketBufferView
first_packets count buffer = record buffer {
  packets = take count buffer.packets;
  headrooms = take count buffer.headrooms;
}

-- a buffer, of which so many packets and so much memory were there before
abbrev pub appended_view : PacketBufferView → ℕ → BufferMemory → AppendedView
appended_view buffer first memory = record {
  before = record (first_packets first buffer) { memory = memory };
  after = drop first buffer.packets;
}

-- nothing was there before
abbrev pub no_buffer : PacketBufferView
no_buffer = record {
  packets = [];
  headrooms = [];
  headroom = 0;
  memory = record { bytes = 0; ends = 0 };
}

-- headrooms of zeros, one for each of these packets
abbrev pub empty_headrooms : ℕ → List (List ℕ) → List (List ℕ)
empty_headrooms headroom packets = map (λ packet. replicate headroom 0) packets

-- a buffer with these packets behind its own, each behind a headroom of zeros, in so much memory
abbrev pub with_packets : PacketBufferView → List (List ℕ) → BufferMemory → PacketBufferView
with_packets buffer packets memory = record buffer {
  packets = buffer.packets ++ packets;
  headrooms = buffer.headrooms ++ empty_headrooms buffer.headroom packets;
  memory = memory;
}

-- a buffer as it was but for its memory
abbrev pub with_memory : PacketBufferView → BufferMemory → PacketBufferView
with_memory buffer memory = record buffer { memory = memory }

-- memory of a buffer that took in these packets behind its own
abbrev pub IsMemoryWith : PacketBufferView → List (List ℕ) → BufferMemory → Type 0
IsMemoryWith buffer packets memory = IsMemoryFor buffer.headroom (buffer.packets ++ packets)
    buffer.memory memory

-- so many packets of a buffer were there before, and so much memory: each packet has its headroom, and
-- those of the others are of zeros; where there are no others it has hardly more memory
pub record IsAppending (buffer : PacketBufferView) (first : ℕ) (old : BufferMemory) : Type 0 where
  pub packets : first ≤ length buffer.packets
  pub headrooms : length buffer.headrooms ≡ length buffer.packets
  pub fresh : drop first buffer.headrooms
      ≡ empty_headrooms buffer.headroom (drop first buffer.packets)
  pub memory : length buffer.packets ≤ first →
      IsMemoryFor buffer.headroom buffer.packets old buffer.memory

-- a headroom whose last bytes are a header
abbrev pub headed : List ℕ → List ℕ → List ℕ
headed header room = take (length room - length header) room ++ header

-- headrooms, of which that at a place has a header
abbrev pub headed_at : ℕ → List ℕ → List (List ℕ) → List (List ℕ)
headed_at place header [] = []
headed_at zero header (room ∷ rooms) = headed header room ∷ rooms
headed_at (suc place) header (room ∷ rooms) = room ∷ headed_at place header rooms

-- a buffer has its own packets and headroom still, and perhaps packets behind them
abbrev pub IsAppended : PacketBufferView → PacketBufferView → Type 0
IsAppended old new = (packets : List (List ℕ)) × (new ≡ with_packets old packets new.memory)
    × IsMemoryWith old packets new.memory
