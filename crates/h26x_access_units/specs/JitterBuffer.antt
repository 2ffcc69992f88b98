-- Packets that wait for those before them: by a window, by time and by bytes (RFC 3550, 5.1; ours).
use Rattle.std.specs.Prelude.{◌≡◌, ℕ, ◌+◌, ◌<◌, ◌≤◌, ◌^◌, ◌==◌, nat_lt, nat_le, Bool, true, false, ◌||◌, ◌&&◌, not, if◌then◌else◌, List, [], ◌∷◌, ◌++◌, length, Option, Some, None, slice_get, max, min, is_some}
use Rattle.h26x_core.specs.Sequence.{distance_ahead}
use Rattle.h26x_reorder.specs.Rtp.{RtpBody}
use Rattle.h26x_reorder.specs.ReorderBuffer.{BufferState, fresh_buffer, begun_at, with_window, newest_of, is_ahead_of, are_beyond, push_answer, after_push, next_packet, without_first, IsHeldInOrder}
use Rattle.h26x_access_units.specs.declared.arrival.Arrival.{Arrival}
use Rattle.h26x_access_units.specs.declared.config.AccessUnitConfig.{AccessUnitConfig}
use Rattle.h26x_access_units.specs.declared.pushed.Pushed.{Pushed}
use Rattle.h26x_access_units.specs.declared.pushed.Pushed.TheVariants as pushes
use Rattle.h26x_access_units.specs.Arrival.{arrival_of, without_number, is_first_passed, has_waited, AreArrivals}
use Rattle.h26x_access_units.specs.Pushed.{as_pushed}

-- what waits: the settings, the packets in the order of their numbers, when they came, in the order
-- in which they came, whether the first packet of the stream went or its number is told, and whether
-- the stream has ended
pub record JitterState : Type 0 where
  pub config : AccessUnitConfig
  pub buffer : BufferState RtpBody
  pub arrivals : List Arrival
  pub has_begun : Bool
  pub is_over : Bool

-- these five
abbrev pub jitter_state : AccessUnitConfig → BufferState RtpBody → List Arrival → Bool → Bool →
    JitterState
jitter_state config buffer arrivals has_begun is_over = record {
  config = config;
  buffer = buffer;
  arrivals = arrivals;
  has_begun = has_begun;
  is_over = is_over;
}

-- before any packet came
abbrev pub fresh_jitter : AccessUnitConfig → JitterState
fresh_jitter config = record {
  config = config;
  buffer = fresh_buffer config.window;
  arrivals = [];
  has_begun = false;
  is_over = false;
}

-- whether the number of the first packet may be told: none came, none is told, and the stream hasn't
-- ended
abbrev pub may_tell_first : JitterState → Bool
may_tell_first j = not j.is_over && not (is_some j.buffer.due)

-- the same once it is told: it is due
abbrev pub begun_jitter : ℕ → JitterState → JitterState
begun_jitter number j =
    if may_tell_first j then record j { buffer = begun_at number j.buffer; has_begun = true } else j

-- settings with this limit on the bytes that wait
abbrev pub with_held_limit : ℕ → AccessUnitConfig → AccessUnitConfig
with_held_limit limit config = record config { held_limit = limit }

-- how many bytes of payloads packets have
abbrev pub held_bytes : List (ℕ × RtpBody) → ℕ
held_bytes [] = 0
held_bytes (p ∷ held) = length p.1.payload + held_bytes held

-- Of what waits the bytes are counted; its window is that of the settings, which is in range; it is in
-- order, and so are the arrivals, among them some of packets that went, but none of these first.
pub record IsJitterBuffer (config : AccessUnitConfig) (buffer : BufferState RtpBody)
    (arrivals : List Arrival) (from bytes : ℕ) : Type 0 where
  pub count : bytes ≡ held_bytes buffer.held
  pub window : buffer.window ≡ config.window
  pub some : 0 < config.window
  pub half : config.window ≤ 2 ^ 14
  pub order : IsHeldInOrder buffer.due buffer.held
  pub kept : AreArrivals from buffer.due buffer.held arrivals
  pub first : is_first_passed buffer.due arrivals ≡ false

-- whether more bytes wait than the limit
abbrev pub is_past_limit : JitterState → Bool
is_past_limit j = nat_lt j.config.held_limit (held_bytes j.buffer.held)

-- whether a packet of so many bytes may not wait: more wait already than the limit, or they couldn't
-- be counted
abbrev pub is_full : JitterState → ℕ → Bool
is_full j len = is_past_limit j || nat_le (2 ^ 64) (held_bytes j.buffer.held + len)

-- what is answered for a packet
abbrev pub jitter_answer : JitterState → ℕ × RtpBody → Pushed
jitter_answer j p =
    if is_full j (length p.1.payload) then pushes.Full
    else as_pushed (push_answer j.buffer p.0)

-- whether a number is so far ahead of another one, and so far behind the one that is due, or farther,
-- and not between them
abbrev pub is_outside : ℕ → ℕ → ℕ → ℕ → ℕ → Bool
is_outside far behind due newest number =
    nat_lt (distance_ahead due newest) (distance_ahead due number)
    && (nat_le far (distance_ahead newest number) && nat_le behind (distance_ahead number due))

-- how far behind the one that is due a number is at least that is too far: where it isn't said, as far
-- as ahead
abbrev pub far_back : ℕ → ℕ → ℕ
far_back far behind = if behind == 0 then far else behind

-- whether a number is so far ahead of the newest that waits, or of the one that is due, and so far
-- behind the one that is due, or farther (RFC 3550, A.1); where the first is 0 none is
abbrev pub is_far : ℕ → ℕ → BufferState RtpBody → ℕ → Bool
is_far far behind buffer number = elim buffer.due [
  | None ↦ false
  | Some due ↦ if far == 0 then false
      else is_outside far (far_back far behind) due (newest_of due buffer.held) number
]

-- how far ahead of those that wait a packet is taken as it comes: a window, and 100 at least, by which
-- numbers are out of order (RFC 3550, A.1, MAX_MISORDER)
abbrev pub reach : ℕ → ℕ
reach window = max window 100

-- whether a number is farther ahead of the newest that waits, or of the one that is due, and not late
abbrev pub is_ahead : BufferState RtpBody → ℕ → Bool
is_ahead buffer number = elim buffer.due [
  | None ↦ false
  | Some due ↦ is_ahead_of due (newest_of due buffer.held) number
      && nat_lt (reach buffer.window) (distance_ahead (newest_of due buffer.held) number)
]

-- whether a number is no farther ahead of another one, or behind it
abbrev pub is_near : ℕ → ℕ → ℕ → Bool
is_near window other number =
    nat_le (distance_ahead other number) (reach window)
    || nat_le (distance_ahead number other) (reach window)

-- a packet more waits, which came at this tick
abbrev pub with_packet : ℕ → JitterState → ℕ × RtpBody → JitterState
with_packet now j p = record j {
  buffer = after_push j.buffer p;
  arrivals = j.arrivals ++ arrival_of p.0 now ∷ [];
}

-- two packets more, which came one after the other
abbrev pub with_two : ℕ → JitterState → ℕ × RtpBody → ℕ × RtpBody → JitterState
with_two now j first second = with_packet now (with_packet now j first) second

-- whether what waits stays within the limit with a packet that waited alone, or that is all that waits
abbrev pub has_room_for : JitterState → ℕ × RtpBody → Bool
has_room_for j stray = (length j.buffer.held == 0)
    || nat_le (held_bytes j.buffer.held + length stray.1.payload) j.config.held_limit

-- a packet more waits, near one that waited alone: so does this one, in the order of their numbers,
-- where it is ahead of all that wait, and there is room
abbrev pub with_stray : ℕ → JitterState → ℕ × RtpBody → ℕ × RtpBody → JitterState
with_stray now j stray p =
    if has_room_for j stray && are_beyond j.buffer stray.0 p.0 then with_two now j stray p
    else (if has_room_for j stray && are_beyond j.buffer p.0 stray.0 then with_two now j p stray
    else with_packet now j p)

-- what waits after this answer: a packet that isn't held changes nothing
abbrev pub after_jitter : ℕ → JitterState → ℕ × RtpBody → Pushed → JitterState
after_jitter now j p pushes.Held = with_packet now j p
after_jitter now j p answer = j

-- with other settings from now on
abbrev pub with_config : AccessUnitConfig → JitterState → JitterState
with_config config j = record j { config = config; buffer = with_window config.window j.buffer }

-- for how long a packet waits at most: one that begins the stream for its own time
abbrev pub longest_wait : JitterState → ℕ
longest_wait j =
    if j.has_begun then j.config.max_wait else min j.config.begin_wait j.config.max_wait

-- whether the first packet isn't to wait: the stream has ended, more bytes wait than the limit, or the
-- packet that waits longest has waited long enough
abbrev pub is_pressed : ℕ → JitterState → Bool
is_pressed now j = j.is_over || (is_past_limit j || has_waited (longest_wait j) now j.arrivals)

-- the number from which on others may be missing: of a stream that begins that of the first packet
-- that waits
abbrev pub awaited_number : Bool → Option ℕ → List (ℕ × RtpBody) → Option ℕ
awaited_number true due held = due
awaited_number false due [] = due
awaited_number false due (p ∷ held) = Some p.0

-- so of what waits
abbrev pub awaited : JitterState → Option ℕ
awaited j = awaited_number j.has_begun j.buffer.due j.buffer.held

-- the packet that is due, if one is: the first, where it isn't to wait, where it is the one that is
-- expected next, or where the window has passed
abbrev pub due_packet : ℕ → JitterState → Option (ℕ × RtpBody)
due_packet now j = if is_pressed now j then slice_get j.buffer.held 0 else next_packet j.buffer

-- arrivals without that of the first of packets
abbrev pub without_arrival_of : List (ℕ × RtpBody) → List Arrival → List Arrival
without_arrival_of [] arrivals = arrivals
without_arrival_of (p ∷ held) arrivals = without_number p.0 arrivals

-- whether the stream has begun once the first of packets went, if there is one
abbrev pub begun_with : List (ℕ × RtpBody) → Bool → Bool
begun_with [] has_begun = has_begun
begun_with (p ∷ held) has_begun = true

-- what waits without the first packet
abbrev pub without_due : JitterState → JitterState
without_due j = record j {
  buffer = without_first j.buffer;
  arrivals = without_arrival_of j.buffer.held j.arrivals;
  has_begun = begun_with j.buffer.held j.has_begun;
}
