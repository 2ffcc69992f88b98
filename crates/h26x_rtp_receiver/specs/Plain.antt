-- Which packets of a stream bring themselves, with nothing to undo.
use Rattle.std.specs.Prelude.{ℕ, nat_lt, Bool, ◌&&◌, List, length, slice_index}
use Rattle.h26x_core.specs.Word.{field}
use Rattle.h26x_rtp.specs.Datagram.{DatagramParts, is_there}
use Rattle.h26x_rtp_receiver.specs.Original.{is_type, plain_type}
use Rattle.h26x_rtp_receiver.specs.declared.payload_types.RtpPayloadTypes.{RtpPayloadTypes}
use Rattle.h26x_rtp_receiver.specs.RtpReception.{RtpReception}

-- whether a packet of the SSRC that is followed bears the codec's payload by itself
abbrev pub is_plain_packet : RtpReception → DatagramParts → Bool
is_plain_packet s it = is_type s.sources.media it.header.ssrc
    && (is_type (plain_type s.types) it.header.payload_type && is_there it.payload)

-- whether bytes that are longer than a header of 12 have its payload type where a packet has it: they
-- are no RTCP then
abbrev pub may_be_plain : RtpPayloadTypes → List ℕ → Bool
may_be_plain types bytes = nat_lt 12 (length bytes)
    && is_type (plain_type types) (field (slice_index bytes 1) 6 0)
