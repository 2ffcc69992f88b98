-- What is counted of the packets of one source (RFC 3550, 6.4.1, A.1, A.3 and A.8).
use Rattle.std.specs.Prelude.{◌≡◌, ℕ, ◌+◌, ◌-◌, ◌*◌, ◌/◌, ◌%◌, ◌^◌, ◌<◌, ◌==◌, nat_lt, nat_le, min, max, Bool, true, false, not, ◌&&◌, if◌then◌else◌, List, [], ◌∷◌, length, Option, Some, None, ℤ, pos, neg_ℤ}
use Rattle.h26x_core.specs.Sequence.{next_sequence_number, distance_ahead}
use Rattle.h26x_rtp.specs.declared.statistics.RtpStatistics.{RtpStatistics}
use Rattle.h26x_rtp.specs.declared.report.ReportBlock.{ReportBlock}

-- nothing was counted
abbrev pub no_statistics : RtpStatistics
no_statistics = record {
  base = 0;
  highest = 0;
  after_jump = None;
  expected = 0;
  received = 0;
  bytes = 0;
  recovered = 0;
  transit = None;
  jitter = 0;
  expected_before = 0;
  received_before = 0;
}

-- so many more, to 2^64 - 1
abbrev pub tally : ℕ → ℕ → ℕ
tally count more = min (count + more) (2 ^ 64 - 1)

-- a number begins the source, or begins it anew (RFC 3550, A.1, init_seq)
abbrev pub source_begun : ℕ → RtpStatistics → RtpStatistics
source_begun number s = record s {
  base = number;
  highest = number;
  after_jump = None;
  expected = 1;
  received = 1;
  transit = None;
  expected_before = 0;
  received_before = 0;
}

-- a number less than 3000 ahead of the highest (RFC 3550, A.1, MAX_DROPOUT)
abbrev pub goes_on : ℕ → RtpStatistics → Bool
goes_on number s = nat_lt (distance_ahead s.highest number) 3000

-- a number neither so little ahead of the highest, nor less than 100 behind it (RFC 3550, A.1,
-- MAX_MISORDER)
abbrev pub jumps : ℕ → RtpStatistics → Bool
jumps number s = not (goes_on number s) && nat_lt 99 (distance_ahead number s.highest)

-- whether a number follows the one that jumped
abbrev pub follows_jump : ℕ → Option ℕ → Bool
follows_jump number None = false
follows_jump number (Some after) = number == after

-- whether a number begins the source
abbrev pub begins_source : ℕ → RtpStatistics → Bool
begins_source number s =
    if s.received == 0 then true
    else if jumps number s then follows_jump number s.after_jump
    else false

-- whether a number goes on behind the highest of a source that has begun
abbrev pub follows_highest : ℕ → RtpStatistics → Bool
follows_highest number s = not (s.received == 0) && goes_on number s

-- whether a packet of this number counts: not one that jumps alone (RFC 3550, A.1)
abbrev pub is_counted : ℕ → RtpStatistics → Bool
is_counted number s = if begins_source number s then true else not (jumps number s)

-- once a packet of this number came (RFC 3550, A.1, update_seq, of one packet in sequence)
abbrev pub after_number : ℕ → RtpStatistics → RtpStatistics
after_number number s =
    if begins_source number s then source_begun number s
    else if jumps number s then record s { after_jump = Some (next_sequence_number number) }
    else if goes_on number s then record s {
      highest = number;
      expected = tally s.expected (distance_ahead s.highest number);
      received = tally s.received 1;
    }
    else record s { received = tally s.received 1 }

-- once packets of these numbers came
abbrev pub after_numbers : List ℕ → RtpStatistics → RtpStatistics
after_numbers [] s = s
after_numbers (number ∷ numbers) s = after_numbers numbers (after_number (number % 2 ^ 16) s)

-- by how much two transit times differ, which go round at 2^32 (RFC 3550, A.8)
abbrev pub transit_difference : Option ℕ → ℕ → ℕ
transit_difference None transit = 0
transit_difference (Some before) transit =
    min ((transit + (2 ^ 32 - before)) % 2 ^ 32) ((before + (2 ^ 32 - transit)) % 2 ^ 32)

-- sixteen times the jitter, by a difference more; the first transit time makes none (RFC 3550, A.8)
abbrev pub jitter_after : Option ℕ → ℕ → ℕ → ℕ
jitter_after None transit jitter = jitter
jitter_after (Some before) transit jitter =
    tally jitter (transit_difference (Some before) transit) - tally jitter 8 / 16

-- the time between a timestamp and an arrival, both in ticks of the timestamp's clock (RFC 3550, A.8)
abbrev pub transit_of : ℕ → ℕ → ℕ
transit_of arrival timestamp = (arrival + (2 ^ 32 - timestamp)) % 2 ^ 32

-- with the arrival of a packet that counts, and so many bytes of payload
abbrev pub with_arrival : ℕ → ℕ → RtpStatistics → RtpStatistics
with_arrival transit size s = record s {
  bytes = tally s.bytes size;
  transit = Some transit;
  jitter = jitter_after s.transit transit s.jitter;
}

-- once a packet came: arrival, number, timestamp, and so many bytes of payload
abbrev pub after_arrival : ℕ → ℕ → ℕ → ℕ → RtpStatistics → RtpStatistics
after_arrival arrival number timestamp size s =
    if is_counted number s
    then with_arrival (transit_of arrival timestamp) size (after_number number s)
    else after_number number s

-- the extended highest number, modulo 2^32 (RFC 3550, 6.4.1)
abbrev pub extended_highest : RtpStatistics → ℕ
extended_highest s = (s.base + (s.expected - 1)) % 2 ^ 32

-- how many packets are lost, below zero where more came than were expected, in 24 bits (RFC 3550, A.3)
abbrev pub lost_of : ℕ → ℕ → ℤ
lost_of expected received =
    if nat_le received expected then pos (min (expected - received) 8388607)
    else neg_ℤ (pos (min (received - expected) 8388608))

-- the part of packets that is lost, in 256ths; none where more came than were expected (RFC 3550, A.3)
abbrev pub fraction_of : ℕ → ℕ → ℕ
fraction_of expected received =
    if nat_le expected received then 0 else min ((expected - received) * 256 / expected) 255

-- a report block of a source (RFC 3550, 6.4.1)
abbrev pub report_block : ℕ → ℕ → ℕ → RtpStatistics → ReportBlock
report_block ssrc last_sender_report delay s = record {
  ssrc = ssrc;
  fraction_lost = fraction_of (s.expected - s.expected_before) (s.received - s.received_before);
  lost = lost_of s.expected s.received;
  highest = extended_highest s;
  jitter = min (s.jitter / 16) (2 ^ 32 - 1);
  last_sender_report = last_sender_report;
  delay = delay;
}

-- once a report was made (RFC 3550, A.3)
abbrev pub after_report : RtpStatistics → RtpStatistics
after_report s = record s { expected_before = s.expected; received_before = s.received }

-- The numbers of packets that came, not going round: each less than 3000 ahead of the highest before
-- it, or less than 100 behind it (RFC 3550, A.1).
abbrev pub AreNear : ℕ → List ℕ → Type 0
AreNear highest [] = Unit {0}
AreNear highest (number ∷ numbers) = (highest < number + 100) × (number < highest + 3000)
    × AreNear (max highest number) numbers

-- the highest of numbers
abbrev pub highest_number : ℕ → List ℕ → ℕ
highest_number number [] = number
highest_number number (other ∷ numbers) = highest_number (max number other) numbers

-- What is counted of packets of which so many came, from a first number to the last, not going round
-- (RFC 3550, 6.4.1 and A.3).
pub record AreAllCounted (first last count : ℕ) (s : RtpStatistics) : Type 0 where
  pub highest : extended_highest s ≡ last % 2 ^ 32
  pub expected : s.expected ≡ last - first + 1
  pub received : s.received ≡ count
