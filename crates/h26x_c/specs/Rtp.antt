-- What the calls on RTP packets, RTX and RED answer.
use Rattle.std.specs.Prelude.{◌≡◌, ℕ, ◌-◌, ◌<◌, ◌⊎◌, if◌then◌else◌, List, [], length, take, drop, Option, Some, None, is_some, Result, Ok, Err}
use Rattle.h26x_codes.specs.Codes.{ok, no_room}
use Rattle.h26x_rtp.specs.Datagram.{ExtensionParts, HeaderParts, DatagramParts}
use Rattle.h26x_rtp.specs.Red.{RedParts}
use Rattle.h26x_rtp.specs.Rtx.{retransmission_of, IsOriginal}
use Rattle.h26x_rtp.specs.Writing.{IsDatagramWritten}
use Rattle.h26x_rtp.specs.declared.error.RtpError.{RtpError}
use Rattle.h26x_rtp.specs.declared.error.RtpError.TheVariants as reading
use Rattle.h26x_rtp.specs.declared.error.RtpWriteError.{RtpWriteError}
use Rattle.h26x_rtp.specs.declared.error.RtpWriteError.TheVariants as writing
use Rattle.h26x_rtp.specs.declared.red.RedError.{RedError}
use Rattle.h26x_rtp.specs.declared.red.RedError.TheVariants as red
use Rattle.h26x_c.specs.declared.rtp.RtpFields.{RtpFields}
use Rattle.h26x_c.specs.declared.rtp.RtpPlaces.{RtpPlaces}

-- why bytes are no packet
abbrev pub rtp_code : RtpError → ℕ
rtp_code reading.TooShort = 50
rtp_code (reading.OtherVersion version) = 51
rtp_code reading.CsrcsPastTheEnd = 52
rtp_code reading.ExtensionPastTheEnd = 53
rtp_code reading.PaddingOfZero = 54
rtp_code reading.PaddingTooLong = 55

-- why one isn't written
abbrev pub rtp_write_code : RtpWriteError → ℕ
rtp_write_code writing.PayloadType = 56
rtp_write_code writing.Csrcs = 57
rtp_write_code writing.Extension = 58
rtp_write_code writing.Padding = 59
rtp_write_code (writing.NoRoom size) = no_room

-- a retransmission packet bears no original
abbrev pub no_original : ℕ
no_original = 60

-- why bytes are no redundant payload
abbrev pub red_code : RedError → ℕ
red_code red.HeadersPastTheEnd = 61
red_code red.BlocksPastTheEnd = 62

-- the 16 bits that a profile defines; 0 without an extension
abbrev pub extension_profile : Option ExtensionParts → ℕ
extension_profile None = 0
extension_profile (Some it) = it.profile

-- the bytes of an extension
abbrev pub extension_words : Option ExtensionParts → List ℕ
extension_words None = []
extension_words (Some it) = it.bytes

-- what a header says in numbers
abbrev pub header_fields : HeaderParts → RtpFields
header_fields it = record {
  timestamp = it.timestamp;
  ssrc = it.ssrc;
  sequence = it.sequence;
  profile = extension_profile it.extension;
  payload_type = it.payload_type;
  marker = it.marker;
  has_extension = is_some it.extension;
}

-- the header that numbers, CSRCs and the bytes of an extension say
abbrev pub header_with : RtpFields → List ℕ → List ℕ → HeaderParts
header_with it csrcs extension = record {
  marker = it.marker;
  payload_type = it.payload_type;
  sequence = it.sequence;
  timestamp = it.timestamp;
  ssrc = it.ssrc;
  csrcs = csrcs;
  extension = if it.has_extension then Some (record { profile = it.profile; bytes = extension })
      else None;
}

-- a packet in numbers, whose payload ends at a place
abbrev pub packet_places : ℕ → DatagramParts → RtpPlaces
packet_places end it = record {
  header = header_fields it.header;
  csrcs_len = length it.header.csrcs;
  extension_len = length (extension_words it.header.extension);
  payload = end - length it.payload;
  payload_len = length it.payload;
  padding_len = length it.padding;
}

-- what reading a packet answers, in so many bytes
abbrev pub packet_answer : ℕ → Result DatagramParts RtpError → RtpPlaces → ℕ × RtpPlaces
packet_answer size (Ok it) old = (ok, packet_places (size - length it.padding) it)
packet_answer size (Err e) old = (rtp_code e, old)

-- so many bytes at a place
abbrev pub part_at : List ℕ → ℕ → ℕ → List ℕ
part_at bytes place len = take len (drop place bytes)

-- What reading the original of a retransmission packet answers, in so many bytes; the padding of the
-- retransmission stands behind its payload.
abbrev pub IsOriginalAnswer : ℕ → ℕ → ℕ → Result DatagramParts RtpError → ℕ → RtpPlaces → RtpPlaces →
    Type 0
IsOriginalAnswer size payload_type ssrc (Err e) code old new = (code ≡ rtp_code e) × (new ≡ old)
IsOriginalAnswer size payload_type ssrc (Ok rtx) code old new =
    ((length rtx.payload < 2) × (code ≡ no_original) × (new ≡ old))
    ⊎ ((it : DatagramParts) × IsOriginal rtx payload_type ssrc it × (code ≡ ok)
    × (new ≡ packet_places (size - length rtx.padding) it))

-- what writing answers: how many bytes are written, or would be
abbrev pub written_answer : Result ℕ RtpWriteError → ℕ → ℕ × ℕ
written_answer (Ok size) old = (ok, size)
written_answer (Err (writing.NoRoom size)) old = (no_room, size)
written_answer (Err e) old = (rtp_write_code e, old)

-- what writing the retransmission packet of what was read answers
abbrev pub IsRetransmitted : ℕ → ℕ → ℕ → Result DatagramParts RtpError → List ℕ → List ℕ → ℕ → ℕ → ℕ →
    Type 0
IsRetransmitted payload_type sequence ssrc (Err e) to new_to old_len code len =
    (code ≡ rtp_code e) × (new_to ≡ to) × (len ≡ old_len)
IsRetransmitted payload_type sequence ssrc (Ok it) to new_to old_len code len =
    (answer : Result ℕ RtpWriteError)
    × IsDatagramWritten (retransmission_of it payload_type sequence ssrc) to new_to answer
    × ((code, len) ≡ written_answer answer old_len)

-- what writing a header before a place answers: how many bytes it has
abbrev pub before_answer : ℕ → Result ℕ RtpWriteError → ℕ → ℕ × ℕ
before_answer place (Ok start) old = (ok, place - start)
before_answer place (Err e) old = written_answer (Err e) old

-- what reading a redundant payload of so many bytes answers: the payload type of the primary block,
-- and where that begins; it is last
abbrev pub red_answer : ℕ → Result RedParts RedError → ℕ × ℕ → ℕ × (ℕ × ℕ)
red_answer size (Ok it) old = (ok, (it.payload_type, size - length it.primary))
red_answer size (Err e) old = (red_code e, old)
