-- What an RTP packet brings of its stream: itself, the packet that it sends again (RFC 4588), or its
-- primary block (RFC 2198).
use Rattle.std.specs.Prelude.{◌≡◌, ℕ, ◌==◌, nat_le, nat_lt, Bool, true, false, is_some, ◌&&◌, ◌||◌, if◌then◌else◌, List, [], ◌∷◌, length, drop, Option, Some, None, Result, Ok, Err, IfSome}
use Rattle.h26x_reorder.specs.Rtp.{rtp_body}
use Rattle.h26x_rtp.specs.Datagram.{HeaderParts, DatagramParts}
use Rattle.h26x_rtp.specs.Words.{word_at}
use Rattle.h26x_rtp.specs.Red.{RedParts, red_of}
use Rattle.h26x_rtp.specs.declared.red.RedError.{RedError}
use Rattle.h26x_rtp_receiver.specs.declared.payload_types.RtpPayloadTypes.{RtpPayloadTypes}
use Rattle.h26x_rtp_receiver.specs.declared.original.RtpOriginal.{RtpOriginal}
use Rattle.h26x_rtp_receiver.specs.declared.original.NoMedia.{NoMedia}
use Rattle.h26x_rtp_receiver.specs.declared.original.NoMedia.TheVariants.{Padding, Fec, OtherPayloadType}

-- whether a payload type, or an SSRC, is this one
abbrev pub is_type : Option ℕ → ℕ → Bool
is_type None payload_type = false
is_type (Some it) payload_type = it == payload_type

-- the payload type that packets of this one send again, if it is one of RTX (RFC 4588, 8.1, apt)
abbrev pub resent_type : RtpPayloadTypes → ℕ → Option ℕ
resent_type types payload_type =
    if is_type types.rtx payload_type then Some types.media
    else if is_type types.rtx_of_red payload_type then types.red
    else None

-- whether packets of a payload type are taken for RTCP where they have the marker (RFC 5761, 4)
abbrev pub is_type_of_rtcp : ℕ → Bool
is_type_of_rtcp payload_type = nat_le 64 payload_type && nat_le payload_type 95

-- the payload type whose packets bear the codec's payload by themselves: the codec's, unless it is that
-- of RTX or of RED too, or they may be taken for RTCP
abbrev pub plain_type : RtpPayloadTypes → Option ℕ
plain_type types =
    if (is_some (resent_type types types.media) || is_type types.red types.media)
    || is_type_of_rtcp types.media
    then None
    else Some types.media

-- that as a number which is that of no payload type where there is none
abbrev pub type_number : Option ℕ → ℕ
type_number None = 256
type_number (Some it) = it

-- whether a stream may begin with a packet of this one: it is the codec's, or RED
abbrev pub begins_stream : RtpPayloadTypes → ℕ → Bool
begins_stream types payload_type =
    (payload_type == types.media) || is_type types.red payload_type

-- A packet that bears nothing of the codec: its number is one of the stream's, which all packets of an
-- SSRC have in common (RFC 3550, 5.1; RFC 5109, 14.2).
abbrev pub bearing_none : Bool → ℕ → NoMedia → RtpOriginal
bearing_none is_recovered number why = record {
  packet = (number, rtp_body 0 false []);
  no_media = Some why;
  is_recovered = is_recovered;
}

-- one that bears a payload of the codec, with the timestamp and the marker of a header
abbrev pub bearing : Bool → ℕ → HeaderParts → List ℕ → RtpOriginal
bearing is_recovered number header payload = record {
  packet = (number, rtp_body header.timestamp header.marker payload);
  no_media = None;
  is_recovered = is_recovered;
}

-- what a packet brings that bears the codec's payload by itself
abbrev pub plain_original : DatagramParts → RtpOriginal
plain_original it = bearing false it.header.sequence it.header it.payload

-- one with a payload of this payload type; without one it is padding alone (RFC 3550, 5.1)
abbrev pub with_type : RtpPayloadTypes → Bool → ℕ → HeaderParts → ℕ → List ℕ → RtpOriginal
with_type types is_recovered number header payload_type [] = bearing_none is_recovered number Padding
with_type types is_recovered number header payload_type (byte ∷ bytes) =
    if payload_type == types.media then bearing is_recovered number header (byte ∷ bytes)
    else if is_type types.fec payload_type then bearing_none is_recovered number Fec
    else bearing_none is_recovered number (OtherPayloadType payload_type)

-- one with a redundant payload: its primary block (RFC 2198, 3)
abbrev pub with_red : RtpPayloadTypes → Bool → ℕ → HeaderParts → Result RedParts RedError →
    Result RtpOriginal RedError
with_red types is_recovered number header (Err e) = Err e
with_red types is_recovered number header (Ok red) =
    Ok (with_type types is_recovered number header red.payload_type red.primary)

-- one with a payload that may be redundant
abbrev pub with_payload : RtpPayloadTypes → Bool → ℕ → HeaderParts → ℕ → List ℕ →
    Result RtpOriginal RedError
with_payload types is_recovered number header payload_type [] =
    Ok (bearing_none is_recovered number Padding)
with_payload types is_recovered number header payload_type (byte ∷ bytes) =
    if is_type types.red payload_type
    then with_red types is_recovered number header (red_of (byte ∷ bytes))
    else Ok (with_type types is_recovered number header payload_type (byte ∷ bytes))

-- one that is there, but for a refusal
abbrev pub there : Result RtpOriginal RedError → Result (Option RtpOriginal) RedError
there (Ok it) = Ok (Some it)
there (Err e) = Err e

-- what a packet brings, by the payload type that it sends again: the original number and payload, if it
-- has these, with its own timestamp and marker (RFC 4588, 4)
abbrev pub original_by : RtpPayloadTypes → DatagramParts → Option ℕ →
    Result (Option RtpOriginal) RedError
original_by types it None = there (with_payload types false it.header.sequence it.header
    it.header.payload_type it.payload)
original_by types it (Some payload_type) =
    if nat_lt (length it.payload) 2 then Ok None
    else there (with_payload types true (word_at it.payload 0) it.header payload_type
    (drop 2 it.payload))

-- so by the session's payload types
abbrev pub original_of : RtpPayloadTypes → DatagramParts → Result (Option RtpOriginal) RedError
original_of types it = original_by types it (resent_type types it.header.payload_type)

-- the same, recovered
abbrev pub recovered : Result (Option RtpOriginal) RedError → Result (Option RtpOriginal) RedError
recovered (Ok (Some it)) = Ok (Some (record it { is_recovered = true }))
recovered answer = answer

-- a packet with this payload type and payload
abbrev pub bearing_payload : DatagramParts → ℕ → List ℕ → DatagramParts
bearing_payload it payload_type payload = record it {
  header = record it.header { payload_type = payload_type };
  payload = payload;
}

-- a packet of this number, which has no payload where it bears nothing of the codec
pub record IsOfNumber (n : ℕ) (it : RtpOriginal) : Type 0 where
  pub number : it.packet.0 ≡ n
  pub nothing : IfSome it.no_media (λ why. it.packet.1 ≡ rtp_body 0 false [])

-- so is what is brought, if something is
abbrev pub BringsOfNumber : ℕ → Result (Option RtpOriginal) RedError → Type 0
BringsOfNumber number (Ok (Some it)) = IsOfNumber number it
BringsOfNumber number answer = Unit {0}
