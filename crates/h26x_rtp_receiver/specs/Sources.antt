-- Which packets are of a stream (RFC 3550, 8; RFC 4588, 5.3).
use Rattle.std.specs.Prelude.{ℕ, ◌==◌, nat_le, Bool, true, false, ◌&&◌, if◌then◌else◌, List, length, Option, Some, None, is_some}
use Rattle.std.specs.List.{list_any}
use Rattle.std.specs.Option.{option_map, unwrap_or}
use Rattle.h26x_rtp.specs.Datagram.{DatagramParts}
use Rattle.h26x_rtp.specs.Words.{word_at}
use Rattle.h26x_rtp_receiver.specs.declared.payload_types.RtpPayloadTypes.{RtpPayloadTypes}
use Rattle.h26x_rtp_receiver.specs.declared.sources.RtpSources.{RtpSources}
use Rattle.h26x_rtp_receiver.specs.Original.{resent_type, begins_stream}

-- none is known
abbrev pub no_sources : RtpSources
no_sources = record { media = None; rtx = None }

-- whether a packet is of the stream of this SSRC, where the SSRC of its retransmissions may be known:
-- it has either, or, where it is one of RTX and that isn't known, its SSRC doesn't tell (RFC 4588, 5.3)
abbrev pub told_of : RtpPayloadTypes → DatagramParts → Option ℕ → Option ℕ → Option Bool
told_of types it rtx None = Some (begins_stream types it.header.payload_type)
told_of types it rtx (Some media) =
    if it.header.ssrc == media then Some true
    else if is_some (resent_type types it.header.payload_type)
    then option_map (λ ssrc. it.header.ssrc == ssrc) rtx
    else Some false

-- so of the sources that are known; the first packet of the codec or of RED begins the stream
abbrev pub told : RtpPayloadTypes → RtpSources → DatagramParts → Option Bool
told types s it = told_of types it s.rtx s.media

-- Whether a retransmission bears one of the numbers that are missing: by this it is known of which
-- stream it is where its SSRC isn't (RFC 4588, 5.3).
abbrev pub bears_missing : List ℕ → DatagramParts → Bool
bears_missing missing it = nat_le 2 (length it.payload)
    && list_any (λ n. n == word_at it.payload 0) missing

-- whether a packet is of the stream, of which these numbers are missing
abbrev pub is_followed : RtpPayloadTypes → RtpSources → List ℕ → DatagramParts → Bool
is_followed types s missing it = unwrap_or (told types s it) (bears_missing missing it)

-- the sources with the SSRC of a packet of the stream: it is the stream's, or that of RTX
abbrev pub sources_by : ℕ → RtpSources → Option ℕ → RtpSources
sources_by ssrc s None = record s { media = Some ssrc }
sources_by ssrc s (Some media) = if media == ssrc then s else record s { rtx = Some ssrc }

-- so with what is known
abbrev pub sources_with : ℕ → RtpSources → RtpSources
sources_with ssrc s = sources_by ssrc s s.media
