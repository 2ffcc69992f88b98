-- A buffer of packets that came before earlier ones, by their sequence numbers (RFC 3550, 5.1; ours).
use Rattle.std.specs.Prelude.{◌≡◌, ℕ, ◌+◌, ◌-◌, ◌%◌, ◌^◌, ◌<◌, ◌≤◌, ◌==◌, nat_lt, nat_le, Bool, ◌||◌, ◌&&◌, if◌then◌else◌, List, [], ◌∷◌, ◌++◌, length, map, Option, Some, None, slice_index_or, false}
use Rattle.std.specs.List.{list_any}
use Rattle.h26x_core.specs.Sequence.{next_sequence_number, distance_ahead, distance_behind, is_expected, is_late}
use Rattle.h26x_reorder.specs.Reordering.{in_order, IsReordered}
use Rattle.h26x_reorder.specs.Rtp.{RtpBody, rtp_body}
use Rattle.h26x_reorder.specs.declared.buffer.HeldPacket.{HeldPacket}
use Rattle.h26x_reorder.specs.declared.pushed.Pushed.{Pushed}
use Rattle.h26x_reorder.specs.declared.pushed.Pushed.TheVariants as pushes
use Rattle.h26x_reorder.specs.declared.buffer.NotHeldReason.{NotHeldReason}
use Rattle.h26x_reorder.specs.declared.buffer.NotHeldReason.TheVariants as reasons

-- what a buffer is to contracts: its window, the number that is due, if a packet came, and the packets
-- that it holds, with their numbers
pub record BufferState (A : Type 0) : Type 0 where
  pub window : ℕ
  pub due : Option ℕ
  pub held : List (ℕ × A)

-- these three
abbrev pub buffer_state : {A : Type 0} → ℕ → Option ℕ → List (ℕ × A) → BufferState A
buffer_state window due held = record { window = window; due = due; held = held }

-- a packet with its number
abbrev pub numbered_packet : HeldPacket → ℕ × RtpBody
numbered_packet p = (p.sequence, rtp_body p.timestamp p.marker p.payload.items)

-- what holds of a window that a buffer may have, 1 to 2^14
abbrev pub OfWindow : ℕ → Type 0 → Type 0
OfWindow window holds = 0 < window → window ≤ 2 ^ 14 → holds

-- before any packet came
abbrev pub fresh_buffer : {A : Type 0} → ℕ → BufferState A
fresh_buffer window = buffer_state window None []

-- a buffer for which the number of the first packet is told: it is due, where no packet came
abbrev pub begun_at : {A : Type 0} → ℕ → BufferState A → BufferState A
begun_at number b = elim b.due [
  | None ↦ buffer_state b.window (Some number) b.held
  | Some due ↦ b
]

-- the same with this window
abbrev pub with_window : {A : Type 0} → ℕ → BufferState A → BufferState A
with_window window b = buffer_state window b.due b.held

-- the number that is due when a packet comes: where it is the first, the first of the window that ends
-- with it, since those sent before it may still come
abbrev pub due_at : ℕ → Option ℕ → ℕ → ℕ
due_at window None number = (next_sequence_number number + (2 ^ 16 - window)) % 2 ^ 16
due_at window (Some due) number = due

-- packets with one more, in the order of their numbers from the one that is due; none twice
abbrev pub put_packet : {A : Type 0} → ℕ → ℕ × A → List (ℕ × A) → List (ℕ × A)
put_packet due p [] = p ∷ []
put_packet due p (q ∷ held) =
    if nat_lt (distance_ahead due p.0) (distance_ahead due q.0) then p ∷ q ∷ held
    else (if p.0 == q.0 then q ∷ held else q ∷ put_packet due p held)

-- whether a packet with this number is held
abbrev pub is_number_held : {A : Type 0} → ℕ → List (ℕ × A) → Bool
is_number_held number held = list_any (λ q. q.0 == number) held

-- what is answered for a packet
abbrev pub push_answer : {A : Type 0} → BufferState A → ℕ → Pushed
push_answer b number =
    if is_late (Some (due_at b.window b.due number)) number
    then pushes.Late (distance_behind (Some (due_at b.window b.due number)) number)
    else (if is_number_held number b.held then pushes.Twice else pushes.Held)

-- why a packet isn't held for which this is answered: where it would be held, memory lacks
abbrev pub reason_of : Pushed → NotHeldReason
reason_of pushes.Held = reasons.OutOfMemory
reason_of (pushes.Late n) = reasons.Late n
reason_of pushes.Twice = reasons.Twice

-- the buffer after a packet came: one that is late changes nothing
abbrev pub after_push : {A : Type 0} → BufferState A → ℕ × A → BufferState A
after_push b p =
    if is_late (Some (due_at b.window b.due p.0)) p.0 then b
    else buffer_state b.window (Some (due_at b.window b.due p.0))
    (put_packet (due_at b.window b.due p.0) p b.held)

-- whether a packet with this number needn't be held: none is, and it is the one that is due
abbrev pub goes_straight : {A : Type 0} → BufferState A → ℕ → Bool
goes_straight b number = (length b.held == 0) && is_expected b.due number

-- the number of the last packet that is held, or the one that is due where none is
abbrev pub newest_of : ℕ → List (ℕ × RtpBody) → ℕ
newest_of due held =
    if length held == 0 then due
    else (slice_index_or held (length held - 1) (0, rtp_body 0 false [])).0

-- whether a number is farther ahead of the one that is due than another, and not late
abbrev pub is_ahead_of : ℕ → ℕ → ℕ → Bool
is_ahead_of due other number = nat_lt (distance_ahead due other) (distance_ahead due number)
    && nat_lt (distance_ahead due number) (2 ^ 15)

-- whether a number is ahead of all that are held, and not late
abbrev pub is_beyond : BufferState RtpBody → ℕ → Bool
is_beyond b number = elim b.due [
  | None ↦ false
  | Some due ↦ is_ahead_of due (newest_of due b.held) number
]

-- whether two numbers are, and the second is ahead of the first
abbrev pub are_beyond : BufferState RtpBody → ℕ → ℕ → Bool
are_beyond b first second = elim b.due [
  | None ↦ false
  | Some due ↦ is_ahead_of due (newest_of due b.held) first && is_ahead_of due first second
]

-- the number of the last of packets
abbrev pub last_number : {A : Type 0} → ℕ → List (ℕ × A) → ℕ
last_number number [] = number
last_number number (p ∷ held) = last_number p.0 held

-- whether a packet may go: it is the one that is due, or the newest one is so far ahead of it that the
-- window has passed
abbrev pub may_go : ℕ → ℕ → ℕ → ℕ → Bool
may_go window newest due number = (number == due)
    || nat_le (distance_ahead due number + window) (distance_ahead due newest + 1)

-- the first of the packets held, if it may go
abbrev pub first_ready : {A : Type 0} → ℕ → Option ℕ → List (ℕ × A) → Option (ℕ × A)
first_ready window (Some due) (p ∷ held) =
    if may_go window (last_number p.0 held) due p.0 then Some p else None
first_ready window due held = None

-- so of a buffer
abbrev pub next_packet : {A : Type 0} → BufferState A → Option (ℕ × A)
next_packet b = first_ready b.window b.due b.held

-- the number of the first packet, if there is one
abbrev pub first_number : {A : Type 0} → List (ℕ × A) → Option ℕ
first_number [] = None
first_number (p ∷ held) = Some p.0

-- a buffer without the first packet that it holds: the number behind it is due
abbrev pub without_first_of : {A : Type 0} → ℕ → Option ℕ → List (ℕ × A) → BufferState A
without_first_of window due [] = buffer_state window due []
without_first_of window due (p ∷ held) = buffer_state window (Some (next_sequence_number p.0)) held

-- so of a buffer
abbrev pub without_first : {A : Type 0} → BufferState A → BufferState A
without_first b = without_first_of b.window b.due b.held

-- packets in the order of their numbers from the one that is due, none twice, and each less than half
-- of the numbers' circle ahead of it
abbrev pub AreHeldInOrder : {A : Type 0} → ℕ → ℕ → List (ℕ × A) → Type 0
AreHeldInOrder due from [] = Unit {0}
AreHeldInOrder due from (p ∷ held) = (p.0 < 2 ^ 16) × (from ≤ distance_ahead due p.0)
    × (distance_ahead due p.0 < 2 ^ 15)
    × AreHeldInOrder due (distance_ahead due p.0 + 1) held

-- so of what a buffer holds: nothing before any packet came
abbrev pub IsHeldInOrder : {A : Type 0} → Option ℕ → List (ℕ × A) → Type 0
IsHeldInOrder None held = held ≡ []
IsHeldInOrder (Some due) held = (due < 2 ^ 16) × AreHeldInOrder due 0 held

-- what every buffer is
pub record IsBufferState {A : Type 0} (b : BufferState A) : Type 0 where
  pub some : 0 < b.window
  pub half : b.window ≤ 2 ^ 14
  pub order : IsHeldInOrder b.due b.held

-- the packets at the front that may go one after the other, where the newest has this number
abbrev pub ready_front : {A : Type 0} → ℕ → ℕ → ℕ → List (ℕ × A) → List (ℕ × A)
ready_front window newest due [] = []
ready_front window newest due (p ∷ held) =
    if may_go window newest due p.0
    then p ∷ ready_front window newest (next_sequence_number p.0) held else []

-- the buffer without them
abbrev pub without_front : {A : Type 0} → ℕ → ℕ → ℕ → List (ℕ × A) → BufferState A
without_front window newest due [] = buffer_state window (Some due) []
without_front window newest due (p ∷ held) =
    if may_go window newest due p.0
    then without_front window newest (next_sequence_number p.0) held
    else buffer_state window (Some due) (p ∷ held)

-- the packets of a buffer that may go
abbrev pub ready_packets : {A : Type 0} → ℕ → Option ℕ → List (ℕ × A) → List (ℕ × A)
ready_packets window None held = []
ready_packets window (Some due) held = ready_front window (last_number 0 held) due held

-- the buffer without them
abbrev pub without_ready : {A : Type 0} → ℕ → Option ℕ → List (ℕ × A) → BufferState A
without_ready window None held = buffer_state window None held
without_ready window (Some due) held = without_front window (last_number 0 held) due held

-- what may go of a buffer is its first packet and what may go behind it
pub record IsReadyStep (b : BufferState RtpBody) (p : ℕ × RtpBody) (rest : BufferState RtpBody) : Type
    0 where
  pub ready : ready_packets b.window b.due b.held
      ≡ p ∷ ready_packets rest.window rest.due rest.held
  pub without : without_ready b.window b.due b.held ≡ without_ready rest.window rest.due rest.held
  pub length_is : length b.held ≡ length rest.held + 1

-- nothing may go of a buffer
pub record IsNothingReady (b : BufferState RtpBody) : Type 0 where
  pub ready : ready_packets b.window b.due b.held ≡ []
  pub without : without_ready b.window b.due b.held ≡ b

-- what a buffer gives out of packets as they come, all that may go after each, and at the end all
-- that is held
abbrev pub reordered_from : {A : Type 0} → BufferState A → List (ℕ × A) → List (ℕ × A)
reordered_from b [] = b.held
reordered_from b (p ∷ packets) =
    ready_packets (after_push b p).window (after_push b p).due (after_push b p).held
    ++ reordered_from
    (without_ready (after_push b p).window (after_push b p).due (after_push b p).held) packets

-- so of a new buffer
abbrev pub reordered : {A : Type 0} → ℕ → List (ℕ × A) → List (ℕ × A)
reordered window packets = reordered_from (fresh_buffer window) packets

-- a packet by its place, with its sequence number: they are numbered on from one
abbrev pub packet_at : {A : Type 0} → (ℕ → A) → ℕ → ℕ → ℕ × A
packet_at sent first place = ((first + place) % 2 ^ 16, sent place)

-- Of whatever packets sent, numbered on from whatever number: in whatever order these come within the
-- window, what is given out is what came, each once, in the order of sending.
abbrev pub IsPutInOrder : {A : Type 0} → ℕ → List (ℕ × A) → List (ℕ × A) → Type 0
IsPutInOrder {A = A} window packets out = (sent : ℕ → A) (first : ℕ) (places : List ℕ) →
    packets ≡ map (packet_at sent first) places → IsReordered window places →
    out ≡ map (packet_at sent first) (in_order places)
