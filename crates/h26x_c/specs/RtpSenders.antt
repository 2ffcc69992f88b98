-- What a caller of C tells a sender of datagrams and is told by it.
use Rattle.std.specs.Prelude.{◌≡◌, ℕ, ◌-◌, ◌||◌, ◌&&◌, nat_lt, if◌then◌else◌, Bool, true, false, List, [], Option, Some, None, Result, Ok, Err}
use Rattle.h26x_codes.specs.Codes.{ok, out_of_memory}
use Rattle.h26x_rtp.specs.Datagram.{ExtensionParts}
use Rattle.h26x_rtp.specs.declared.error.RtpWriteError.{RtpWriteError}
use Rattle.h26x_rtp_sender.specs.InMemory.{IsSendInMemory}
use Rattle.h26x_rtp_sender.specs.Sending.{RtpSending, fresh_sender, IsResend}
use Rattle.h26x_rtp_sender.specs.declared.error.RtpSendError.{RtpSendError}
use Rattle.h26x_rtp_sender.specs.declared.error.RtpSendError.TheVariants.{Header, OutOfMemory}
use Rattle.h26x_rtp_sender.specs.declared.stream.RtpStream.{RtpStream}
use Rattle.h26x_c.specs.Rtp.{written_answer}
use Rattle.h26x_c.specs.declared.rtp_sender.SentCounts.{SentCounts}
use Rattle.h26x_c.specs.declared.rtp_sender.Streams.{Streams}

-- the stream of packets, by what C says of it, and that of retransmissions
abbrev pub media_in : Streams → RtpStream
media_in it = record { ssrc = it.ssrc; payload_type = it.payload_type; sequence = it.sequence }

abbrev pub rtx_in : Streams → Option RtpStream
rtx_in it = if it.has_rtx then Some (record {
  ssrc = it.rtx_ssrc;
  payload_type = it.rtx_payload_type;
  sequence = it.rtx_sequence;
}) else None

-- whether each payload type that is looked at has a place in a header
abbrev pub are_payload_types : Streams → Bool
are_payload_types it = nat_lt it.payload_type 128
    && (if it.has_rtx then nat_lt it.rtx_payload_type 128 else true)

-- a new sender
abbrev pub fresh_sender_with : Streams → ℕ → RtpSending
fresh_sender_with streams history = fresh_sender (media_in streams) (rtx_in streams) history

-- its streams, as C is told them: that of retransmissions is 0 where there is none
abbrev pub streams_with : RtpStream → Option RtpStream → Streams
streams_with media None = record {
  ssrc = media.ssrc;
  rtx_ssrc = 0;
  sequence = media.sequence;
  rtx_sequence = 0;
  payload_type = media.payload_type;
  rtx_payload_type = 0;
  has_rtx = false;
}
streams_with media (Some rtx) = record {
  ssrc = media.ssrc;
  rtx_ssrc = rtx.ssrc;
  sequence = media.sequence;
  rtx_sequence = rtx.sequence;
  payload_type = media.payload_type;
  rtx_payload_type = rtx.payload_type;
  has_rtx = true;
}

abbrev pub streams_told : RtpSending → Streams
streams_told it = streams_with it.media it.rtx

-- what was sent, as C is told it
abbrev pub counts_sent : RtpSending → SentCounts
counts_sent it = record {
  packets = it.sent.packets;
  bytes = it.sent.bytes;
  rtx_packets = it.resent.packets;
  rtx_bytes = it.resent.bytes;
}

-- the extension of a profile and bytes: none of no bytes
abbrev pub extension_with : ℕ → List ℕ → Option ExtensionParts
extension_with profile [] = None
extension_with profile bytes = Some (record { profile = profile; bytes = bytes })

-- what sending answers: how many bytes each header has, in a headroom of so many
abbrev pub send_answer : ℕ → Result ℕ RtpSendError → ℕ → ℕ × ℕ
send_answer headroom (Ok start) old = (ok, headroom - start)
send_answer headroom (Err (Header e)) old = written_answer (Err e) old
send_answer headroom (Err OutOfMemory) old = (out_of_memory, old)

-- an access unit was sent, or not, and this is answered
abbrev pub IsSentAnswer : ℕ → Option ExtensionParts → RtpSending → ℕ → List ℕ → List ℕ → RtpSending →
    List ℕ → ℕ → ℕ → ℕ → Type 0
IsSentAnswer timestamp extension it headroom ends memory new new_memory code old len =
    (result : Result ℕ RtpSendError)
    × IsSendInMemory timestamp extension it headroom ends memory result new new_memory
    × ((code, len) ≡ send_answer headroom result old)

-- what sending a packet again answers: how many bytes it has, 0 where none is held
abbrev pub again_answer : Result (Option ℕ) RtpWriteError → ℕ → ℕ × ℕ
again_answer (Ok None) old = (ok, 0)
again_answer (Ok (Some size)) old = (ok, size)
again_answer (Err e) old = written_answer (Err e) old

-- a packet went again, or not, and this is answered
abbrev pub IsAgainAnswer : ℕ → RtpSending → List ℕ → RtpSending → List ℕ → ℕ → ℕ → ℕ → Type 0
IsAgainAnswer number it to new new_to code old len = (result : Result (Option ℕ) RtpWriteError)
    × IsResend number it to result new new_to × ((code, len) ≡ again_answer result old)
