-- Receivers of the packets that a sender sends (RFC 3550, 8; RFC 4588, 8.1; RFC 5761, 4).
use Rattle.std.specs.Prelude.{◌≡◌, ℕ, ◌<◌, ◌⊎◌, false, Some, None}
use Rattle.h26x_rtp_receiver.specs.Original.{is_type, resent_type}
use Rattle.h26x_rtp_receiver.specs.RtpReception.{RtpReception}
use Rattle.h26x_rtp_sender.specs.Sent.{UnitParts}
use Rattle.h26x_rtp_sender.specs.declared.stream.RtpStream.{RtpStream}

-- a payload type that isn't taken for RTCP (RFC 5761, 4)
abbrev pub IsNoRtcpType : ℕ → Type 0
IsNoRtcpType payload_type = (payload_type < 64) ⊎ (95 < payload_type)

-- a receiver that follows the SSRC of an access unit, and whose codec has its payload type alone
pub record IsReceiverOf (s : RtpReception) (unit : UnitParts) : Type 0 where
  pub followed : s.sources.media ≡ Some unit.ssrc
  pub media : s.types.media ≡ unit.payload_type
  pub plain : resent_type s.types unit.payload_type ≡ None
  pub alone : is_type s.types.red unit.payload_type ≡ false
  pub told : IsNoRtcpType unit.payload_type

-- and which takes its packets by RTX from this SSRC with this payload type
pub record IsReceiverBy (s : RtpReception) (rtx : RtpStream) (unit : UnitParts) : Type 0 where
  pub known : s.sources.rtx ≡ Some rtx.ssrc
  pub of_type : resent_type s.types rtx.payload_type ≡ Some unit.payload_type
  pub no_rtcp : IsNoRtcpType rtx.payload_type
