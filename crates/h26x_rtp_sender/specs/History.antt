-- The last packets that were sent (ours).
use Rattle.std.specs.Prelude.{◌≡◌, ℕ, ◌+◌, ◌-◌, ◌≤◌, ◌==◌, nat_le, nat_lt, Bool, ◌&&◌, if◌then◌else◌, List, [], ◌∷◌, length, find, Option}
use Rattle.h26x_core.specs.Sequence.{distance_ahead}
use Rattle.h26x_rtp.specs.Datagram.{DatagramParts}

-- what is held, the oldest first, and how many bytes their payloads have at most
pub record HistoryView : Type 0 where
  pub bound : ℕ
  pub packets : List DatagramParts

abbrev pub history_view : ℕ → List DatagramParts → HistoryView
history_view bound packets = record { bound = bound; packets = packets }

-- how many bytes their payloads have
abbrev pub history_bytes : List DatagramParts → ℕ
history_bytes [] = 0
history_bytes (it ∷ packets) = length it.payload + history_bytes packets

-- whether packets may be held: their payloads have so many bytes at most, and they are half of the
-- circle of sequence numbers at most
abbrev pub are_within : ℕ → List DatagramParts → Bool
are_within bound packets = nat_le (history_bytes packets) bound && nat_le (length packets) 32768

-- the last ones of packets that may be held: the oldest go first
abbrev pub last_within : ℕ → List DatagramParts → List DatagramParts
last_within bound [] = []
last_within bound (it ∷ packets) =
    if are_within bound (it ∷ packets) then it ∷ packets else last_within bound packets

-- whether one more has a place beside so many bytes and packets
abbrev pub has_place : ℕ → ℕ → ℕ → ℕ → Bool
has_place bound size count more = nat_le more (bound - size) && nat_lt count 32768

-- the packet of a number
abbrev pub held_of : ℕ → List DatagramParts → Option DatagramParts
held_of number packets = find (λ it. it.header.sequence == number) packets

-- packets whose numbers follow each other, up to the one before this (RFC 3550, 5.1)
abbrev pub AreNumberedBefore : ℕ → List DatagramParts → Type 0
AreNumberedBefore next [] = Unit {0}
AreNumberedBefore next (it ∷ packets) =
    (it.header.sequence ≡ distance_ahead (length packets + 1) next) × AreNumberedBefore next packets

-- what a sender holds that sends this number next: it may be held, and ends with the number before
pub record AreHeldBefore (next bound : ℕ) (packets : List DatagramParts) : Type 0 where
  pub numbered : AreNumberedBefore next packets
  pub all : last_within bound packets ≡ packets

-- what is held has so many bytes, and may be held
pub record IsHistory (bound size : ℕ) (packets : List DatagramParts) : Type 0 where
  pub bytes : size ≡ history_bytes packets
  pub within : size ≤ bound
  pub all : last_within bound packets ≡ packets
