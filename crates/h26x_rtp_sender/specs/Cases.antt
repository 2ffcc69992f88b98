-- What the worked cases have in common.
use Rattle.std.specs.Prelude.{ℕ, Bool, List, [], ◌∷◌, Some, None}
use Rattle.h26x_packetizer.specs.Buffer.{PacketBufferView}
use Rattle.h26x_rtp.specs.Datagram.{DatagramParts}
use Rattle.h26x_rtp_sender.specs.Sent.{UnitParts, packet_of}
use Rattle.h26x_rtp_sender.specs.Sending.{RtpSending, fresh_sender}
use Rattle.h26x_rtp_sender.specs.declared.stream.RtpStream.{RtpStream}

-- an access unit with the payload type 96, timestamp 9 and SSRC 1, and its packets
abbrev pub unit_of_case : UnitParts
unit_of_case = record { payload_type = 96; timestamp = 9; ssrc = 1; extension = None }

abbrev pub sent_of_case : ℕ → Bool → List ℕ → DatagramParts
sent_of_case sequence marker payload = packet_of unit_of_case sequence marker payload

-- the stream of these, whose next packet has this number, and that of RTX, with the payload type 97 and
-- SSRC 2
abbrev pub media_of_case : ℕ → RtpStream
media_of_case sequence = record { ssrc = 1; payload_type = 96; sequence = sequence }

abbrev pub rtx_of_case : ℕ → RtpStream
rtx_of_case sequence = record { ssrc = 2; payload_type = 97; sequence = sequence }

-- a sender that holds five bytes, and packets of three and two bytes with a headroom of 13
abbrev pub sender_of_case : RtpSending
sender_of_case = fresh_sender (media_of_case 65535) (Some (rtx_of_case 500)) 5

abbrev pub buffer_of_case : PacketBufferView
buffer_of_case = record {
  packets = (0x7c ∷ 0x85 ∷ 1 ∷ []) ∷ (0x41 ∷ 2 ∷ []) ∷ [];
  headrooms = (0 ∷ 0 ∷ 0 ∷ 0 ∷ 0 ∷ 0 ∷ 0 ∷ 0 ∷ 0 ∷ 0 ∷ 0 ∷ 0 ∷ 0 ∷ [])
      ∷ (7 ∷ 0 ∷ 0 ∷ 0 ∷ 0 ∷ 0 ∷ 0 ∷ 0 ∷ 0 ∷ 0 ∷ 0 ∷ 0 ∷ 0 ∷ []) ∷ [];
  headroom = 13;
  memory = record { bytes = 31; ends = 8 };
}

-- the same packets in memory of a caller, with a byte behind them
abbrev pub memory_of_case : List ℕ
memory_of_case = 0 ∷ 0 ∷ 0 ∷ 0 ∷ 0 ∷ 0 ∷ 0 ∷ 0 ∷ 0 ∷ 0 ∷ 0 ∷ 0 ∷ 0 ∷ 0x7c ∷ 0x85 ∷ 1
    ∷ 7 ∷ 0 ∷ 0 ∷ 0 ∷ 0 ∷ 0 ∷ 0 ∷ 0 ∷ 0 ∷ 0 ∷ 0 ∷ 0 ∷ 0 ∷ 0x41 ∷ 2 ∷ 9 ∷ []

-- that memory once they were sent
abbrev pub sent_memory_of_case : List ℕ
sent_memory_of_case = 0 ∷ 0x80 ∷ 0x60 ∷ 0xff ∷ 0xff ∷ 0 ∷ 0 ∷ 0 ∷ 9 ∷ 0 ∷ 0 ∷ 0 ∷ 1 ∷ 0x7c ∷ 0x85 ∷ 1
    ∷ 7 ∷ 0x80 ∷ 0xe0 ∷ 0 ∷ 0 ∷ 0 ∷ 0 ∷ 0 ∷ 9 ∷ 0 ∷ 0 ∷ 0 ∷ 1 ∷ 0x41 ∷ 2 ∷ 9 ∷ []
