-- RTCP on the port of RTP (RFC 5761), and its packets in a datagram (RFC 3550).
use Rattle.std.specs.Prelude.{ℕ, ◌+◌, ◌*◌, ◌≤◌, ◌==◌, nat_le, Bool, ◌&&◌, if◌then◌else◌, List, length, take, drop, slice_index, Option, Some, None}
use Rattle.h26x_core.specs.Word.{field}
use Rattle.h26x_rtp.specs.Words.{word_at}

-- the second byte is a packet type of RTCP, 192 to 223 (RFC 5761, 4)
abbrev pub IsRtcp : List ℕ → Type 0
IsRtcp bytes = (2 ≤ length bytes) × (192 ≤ slice_index bytes 1) × (slice_index bytes 1 ≤ 223)

-- whether it is
abbrev pub is_rtcp_packet : List ℕ → Bool
is_rtcp_packet bytes = nat_le 2 (length bytes)
    && (nat_le 192 (slice_index bytes 1) && nat_le (slice_index bytes 1) 223)

-- how many bytes the first packet of a datagram has: four for each word that stands behind its first
-- (RFC 3550, 6.4.1)
abbrev pub rtcp_size : List ℕ → ℕ
rtcp_size bytes = 4 * word_at bytes 2 + 4

-- whether a packet of RTCP is first in a datagram: its version is 2, and all of it is there (RFC 3550,
-- A.2)
abbrev pub begins_rtcp : List ℕ → Bool
begins_rtcp bytes = nat_le 4 (length bytes)
    && (field (slice_index bytes 0) 7 6 == 2 && nat_le (rtcp_size bytes) (length bytes))

-- that packet, and what stands behind it: the others of a compound (RFC 3550, 6.1)
abbrev pub first_rtcp : List ℕ → Option (List ℕ × List ℕ)
first_rtcp bytes =
    if begins_rtcp bytes then Some (take (rtcp_size bytes) bytes, drop (rtcp_size bytes) bytes)
    else None
