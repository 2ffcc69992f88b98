-- What a sender is, and what becomes of its calls (RFC 3550, 5.1 and 6.4.1; RFC 4588, 4).
use Rattle.std.specs.Prelude.{◌≡◌, ℕ, ◌+◌, ◌%◌, ◌^◌, ◌≤◌, min, false, List, [], ◌∷◌, ◌++◌, length, Option, Some, None, Result, Ok, Err}
use Rattle.h26x_packetizer.specs.Buffer.{PacketBufferView, headed_at}
use Rattle.h26x_rtp.specs.Datagram.{ExtensionParts, DatagramParts, HeaderFits, datagram_header}
use Rattle.h26x_rtp.specs.Rtx.{retransmission_of}
use Rattle.h26x_rtp.specs.Statistics.{tally}
use Rattle.h26x_rtp.specs.Writing.{IsHeaderRefusal, IsDatagramWritten}
use Rattle.h26x_rtp.specs.declared.error.RtpWriteError.{RtpWriteError}
use Rattle.h26x_rtp_sender.specs.History.{HistoryView, history_view, last_within, held_of}
use Rattle.h26x_rtp_sender.specs.Sent.{UnitParts, packet_header, packet_headers, numbered_packets}
use Rattle.h26x_rtp_sender.specs.declared.count.SentCount.{SentCount}
use Rattle.h26x_rtp_sender.specs.declared.error.RtpSendError.{RtpSendError}
use Rattle.h26x_rtp_sender.specs.declared.error.RtpSendError.TheVariants.{Header, OutOfMemory}
use Rattle.h26x_rtp_sender.specs.declared.stream.RtpStream.{RtpStream}

-- nothing was sent, and once payloads were (RFC 3550, 6.4.1)
abbrev pub nothing_sent : SentCount
nothing_sent = record { packets = 0; bytes = 0 }

abbrev pub count_with : ℕ → SentCount → SentCount
count_with size it = record { packets = tally it.packets 1; bytes = tally it.bytes size }

abbrev pub count_with_all : List (List ℕ) → SentCount → SentCount
count_with_all [] it = it
count_with_all (payload ∷ payloads) it = count_with_all payloads (count_with (length payload) it)

-- what a sender is to contracts: its streams, with the numbers of their next packets, what was sent of
-- each, and the packets that it holds, within so many bytes
pub record RtpSending : Type 0 where
  pub media : RtpStream
  pub rtx : Option RtpStream
  pub sent : SentCount
  pub resent : SentCount
  pub history : HistoryView

abbrev pub sending : RtpStream → Option RtpStream → SentCount → SentCount → HistoryView → RtpSending
sending media rtx sent resent history = record {
  media = media;
  rtx = rtx;
  sent = sent;
  resent = resent;
  history = history;
}

-- before anything was sent
abbrev pub fresh_sender : RtpStream → Option RtpStream → ℕ → RtpSending
fresh_sender media rtx bound =
    sending media rtx nothing_sent nothing_sent (history_view bound [])

-- a stream of which so many packets went
abbrev pub stream_behind : ℕ → RtpStream → RtpStream
stream_behind count it = record it { sequence = (it.sequence + count) % 2 ^ 16 }

-- what the headers of an access unit's packets have in common
abbrev pub unit_of : RtpSending → ℕ → Option ExtensionParts → UnitParts
unit_of s timestamp extension = record {
  payload_type = s.media.payload_type;
  timestamp = timestamp;
  ssrc = s.media.ssrc;
  extension = extension;
}

-- one header of an access unit, without its number and marker, which have no part in its length
abbrev pub unit_header : UnitParts → List ℕ
unit_header unit = datagram_header (packet_header unit 0 false) false

-- where headers begin in a headroom of so many bytes, or why none is written; they have 272 bytes at
-- most
abbrev pub IsUnitTest : UnitParts → ℕ → Result ℕ RtpWriteError → Type 0
IsUnitTest unit headroom (Ok start) = HeaderFits (packet_header unit 0 false)
    × (start + length (unit_header unit) ≡ headroom) × (length (unit_header unit) ≤ 272)
IsUnitTest unit headroom (Err e) =
    IsHeaderRefusal (packet_header unit 0 false) false (min headroom 272) 272 e

-- headrooms with these headers, from a place on
abbrev pub headed_from : ℕ → List (List ℕ) → List (List ℕ) → List (List ℕ)
headed_from place [] rooms = rooms
headed_from place (header ∷ headers) rooms =
    headed_from (place + 1) headers (headed_at place header rooms)

-- a buffer whose packets have these headers right before them
abbrev pub with_headers : List (List ℕ) → PacketBufferView → PacketBufferView
with_headers headers buffer = record buffer {
  headrooms = headed_from 0 headers buffer.headrooms;
}

-- once the packets of these payloads were sent
abbrev pub once_sent : UnitParts → List (List ℕ) → RtpSending → RtpSending
once_sent unit payloads s = record s {
  media = stream_behind (length payloads) s.media;
  sent = count_with_all payloads s.sent;
  history = record s.history {
    packets = last_within s.history.bound
        (s.history.packets ++ numbered_packets unit s.media.sequence payloads);
  };
}

-- The packets of an access unit are sent: the header of each stands right before it, and begins at this
-- place of its headroom.
pub record ArePacketsSent (unit : UnitParts) (s : RtpSending) (buffer : PacketBufferView) (start : ℕ)
    (new : RtpSending) (sent : PacketBufferView) : Type 0 where
  pub begins : IsUnitTest unit buffer.headroom (Ok start)
  pub stands : new ≡ once_sent unit buffer.packets s
  pub headed : sent ≡ with_headers (packet_headers unit s.media.sequence buffer.packets) buffer

-- Or they are refused, and all is as it was. A header that is refused is never told as want of memory.
abbrev pub IsUnitCall : UnitParts → RtpSending → PacketBufferView → Result ℕ RtpSendError → RtpSending →
    PacketBufferView → Type 0
IsUnitCall unit s buffer (Ok start) new sent = ArePacketsSent unit s buffer start new sent
IsUnitCall unit s buffer (Err (Header e)) new sent = (new ≡ s) × (sent ≡ buffer)
    × IsUnitTest unit buffer.headroom (Err e)
IsUnitCall unit s buffer (Err OutOfMemory) new sent = (new ≡ s) × (sent ≡ buffer)
    × ((start : ℕ) × IsUnitTest unit buffer.headroom (Ok start))

abbrev pub IsSend : ℕ → Option ExtensionParts → RtpSending → PacketBufferView → Result ℕ RtpSendError →
    RtpSending → PacketBufferView → Type 0
IsSend timestamp extension s buffer result new sent =
    IsUnitCall (unit_of s timestamp extension) s buffer result new sent

-- the packet that goes for one again: its retransmission, or the same (RFC 4588, 4)
abbrev pub packet_again : Option RtpStream → DatagramParts → DatagramParts
packet_again None it = it
packet_again (Some rtx) it = retransmission_of it rtx.payload_type rtx.sequence rtx.ssrc

-- once a packet went again
abbrev pub after_again : Option RtpStream → DatagramParts → RtpSending → RtpSending
after_again None it s = record s { sent = count_with (length it.payload) s.sent }
after_again (Some rtx) it s = record s {
  rtx = Some (stream_behind 1 rtx);
  resent = count_with (length it.payload) s.resent;
}

-- what comes of a packet that goes again, if it is held
abbrev pub IsAgain : Option DatagramParts → RtpSending → List ℕ → Result (Option ℕ) RtpWriteError →
    RtpSending → List ℕ → Type 0
IsAgain None s old result new memory = (result ≡ Ok None) × (new ≡ s) × (memory ≡ old)
IsAgain (Some it) s old (Ok None) new memory = ⊥
IsAgain (Some it) s old (Ok (Some size)) new memory =
    IsDatagramWritten (packet_again s.rtx it) old memory (Ok size)
    × (new ≡ after_again s.rtx (packet_again s.rtx it) s)
IsAgain (Some it) s old (Err e) new memory =
    IsDatagramWritten (packet_again s.rtx it) old memory (Err e) × (new ≡ s)

-- so of the packet of a number
abbrev pub IsResend : ℕ → RtpSending → List ℕ → Result (Option ℕ) RtpWriteError → RtpSending → List ℕ →
    Type 0
IsResend number s old result new memory =
    IsAgain (held_of number s.history.packets) s old result new memory
