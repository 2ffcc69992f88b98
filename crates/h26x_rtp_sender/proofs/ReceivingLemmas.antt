-- What a receiver is brought by what was sent.
use Rattle.std.proofs.Common.{◌≡◌, ℕ, ◌+◌, ◌<◌, ◌≤◌, ◌⊎◌, ◌==◌, ⊎_elim, Bool, true, false, ◌&&◌, if◌then◌else◌, nat_le, List, [], ◌∷◌, length, slice_index, Option, Some, None, Ok, is_some, refl, sym, ap, ◌∙◌, arith}
use Rattle.std.specs.Option.{option_map, unwrap_or}
use Rattle.std.proofs.lemmas.Bool.Decides.{nat_tests}
use Rattle.h26x_access_units.specs.Reception.{nack_numbers}
use Rattle.h26x_core.specs.Word.{flag}
use Rattle.h26x_rtp.specs.Datagram.{DatagramParts, HeaderFits, IsDatagram, datagram_bytes}
use Rattle.h26x_rtp.specs.Reading.{datagram_of}
use Rattle.h26x_rtp.specs.Rtcp.{is_rtcp_packet}
use Rattle.h26x_rtp.specs.Rtx.{retransmission_of}
use Rattle.h26x_rtp_receiver.specs.declared.original.RtpOriginal.{RtpOriginal}
use Rattle.h26x_rtp_receiver.specs.declared.payload_types.RtpPayloadTypes.{RtpPayloadTypes}
use Rattle.h26x_rtp_receiver.specs.declared.pushed.RtpPushed.TheVariants.{Rtcp}
use Rattle.h26x_rtp_receiver.specs.Original.{is_type, resent_type, bearing, recovered, original_of}
use Rattle.h26x_rtp_receiver.specs.RtpReception.{RtpReception, Brings, Told, other_source, brought_by, brought_original, brought_read, brought, is_packet_followed}
use Rattle.h26x_rtp_receiver.specs.Sources.{bears_missing, told_of}
use Rattle.h26x_rtp_sender.specs.Sent.{UnitParts, packet_header, packet_of}
use Rattle.h26x_rtp_sender.specs.Sending.{packet_again}
use Rattle.h26x_rtp_sender.specs.Receiving.{IsNoRtcpType, IsReceiverOf, IsReceiverBy}
use Rattle.h26x_rtp_sender.specs.declared.stream.RtpStream.{RtpStream}

and_false : (b : Bool) → (b && false) ≡ false
and_false true = refl
and_false false = refl

outside : (n : ℕ) → (n < 192) ⊎ (223 < n) → (nat_le 192 n && nat_le n 223) ≡ false
outside n = ⊎_elim
    (λ less. let low : nat_le 192 n ≡ false = grind (arith, nat_tests, less) in rw low refl)
    (λ more. let high : nat_le n 223 ≡ false = grind (arith, nat_tests, more) in rw high (and_false (nat_le 192 n)))

second : (marker : Bool) (n : ℕ) → n < 128 → IsNoRtcpType n → (flag marker 128 + n < 192) ⊎ (223 < flag marker 128 + n)
second true n less no_rtcp = grind (arith, no_rtcp)
second false n less no_rtcp = grind (arith, less)

not_rtcp : (it : DatagramParts) → it.header.payload_type < 128 → IsNoRtcpType it.header.payload_type → is_rtcp_packet (datagram_bytes it) ≡ false
not_rtcp it less no_rtcp =
    ap (λ (b : Bool). nat_le 2 (length (datagram_bytes it)) && b) (outside (flag it.header.marker 128 + it.header.payload_type) (second it.header.marker it.header.payload_type less no_rtcp))
    ∙ and_false (nat_le 2 (length (datagram_bytes it)))

abbrev PacketIsRead : Type 0
PacketIsRead = (bytes : List ℕ) (it : DatagramParts) → IsDatagram bytes it → datagram_of bytes ≡ Ok it

brought_of : PacketIsRead → (s : RtpReception) (it : DatagramParts) (original : RtpOriginal) → HeaderFits it.header → it.padding ≡ [] → IsNoRtcpType it.header.payload_type →
    is_packet_followed s it ≡ true → original_of s.types it ≡ Ok (Some original) → brought s (datagram_bytes it) ≡ Ok (Brings it original)
brought_of reads s it original fits none no_rtcp followed brings =
    let read : datagram_of (datagram_bytes it) ≡ Ok it = reads (datagram_bytes it) it (record { spelled = refl; header = fits; padding = rw none refl }) in
    ap (λ (b : Bool). if b then Ok (Told Rtcp) else brought_read s (datagram_of (datagram_bytes it))) (not_rtcp it fits.payload_type no_rtcp)
    ∙ ap (brought_read s) read
    ∙ ap (λ (b : Bool). if b then brought_original s.types it else Ok (Told (other_source s.types it.header))) followed
    ∙ ap (brought_by it) brings

same_number : (n : ℕ) → (n == n) ≡ true
same_number n = grind (arith, nat_tests)

original_sent : (s : RtpReception) (u : UnitParts) (number byte : ℕ) (marker : Bool) (bytes : List ℕ) → IsReceiverOf s u →
    original_of s.types (packet_of u number marker (byte ∷ bytes)) ≡ Ok (Some (bearing false number (packet_header u number marker) (byte ∷ bytes)))
original_sent s u number byte marker bytes is =
    let media : (u.payload_type == s.types.media) ≡ true = rw is.media (same_number u.payload_type) in
    rw (is.plain, is.alone, media) refl

pub sent_brings : PacketIsRead → (s : RtpReception) (u : UnitParts) (number byte : ℕ) (marker : Bool) (bytes : List ℕ) → IsReceiverOf s u →
    HeaderFits (packet_header u number marker) → brought s (datagram_bytes (packet_of u number marker (byte ∷ bytes)))
    ≡ Ok (Brings (packet_of u number marker (byte ∷ bytes)) (bearing false number (packet_header u number marker) (byte ∷ bytes)))
sent_brings reads s u number byte marker bytes is fits =
    let it = packet_of u number marker (byte ∷ bytes) in
    let missing = nack_numbers s.reception in
    let followed : is_packet_followed s it ≡ true =
    ap (λ (media : Option ℕ). unwrap_or (told_of s.types it s.sources.rtx media) (bears_missing missing it)) is.followed
    ∙ ap (λ (b : Bool). unwrap_or (if b then Some true else if is_some (resent_type s.types u.payload_type) then option_map (λ ssrc. u.ssrc == ssrc) s.sources.rtx else Some false) (bears_missing missing it)) (same_number u.ssrc) in
    brought_of reads s it (bearing false number (packet_header u number marker) (byte ∷ bytes)) fits refl is.told followed (original_sent s u number byte marker bytes is)

abbrev RtxBrings : Type 0
RtxBrings = (types : RtpPayloadTypes) (it : DatagramParts) (payload_type sequence ssrc : ℕ) → it.header.sequence < 65536 → resent_type types payload_type ≡ Some it.header.payload_type →
    resent_type types it.header.payload_type ≡ None → original_of types (retransmission_of it payload_type sequence ssrc) ≡ recovered (original_of types it)

-- a retransmission of an SSRC that is known is followed
by_rtx : (same : Bool) (missing : Bool) (resent rtx : Option ℕ) (ssrc payload_type : ℕ) → resent ≡ Some payload_type → rtx ≡ Some ssrc →
    unwrap_or (if same then Some true else if is_some resent then option_map (λ n. ssrc == n) rtx else Some false) missing ≡ true
by_rtx true missing resent rtx ssrc payload_type is known = refl
by_rtx false missing resent rtx ssrc payload_type is known = rw (is, known) (same_number ssrc)

pub again_brings : PacketIsRead → RtxBrings → (s : RtpReception) (rtx : RtpStream) (u : UnitParts) (number byte : ℕ) (marker : Bool) (bytes : List ℕ) → IsReceiverOf s u → IsReceiverBy s rtx u →
    HeaderFits (packet_header u number marker) → HeaderFits (packet_again (Some rtx) (packet_of u number marker [])).header →
    brought s (datagram_bytes (packet_again (Some rtx) (packet_of u number marker (byte ∷ bytes))))
    ≡ Ok (Brings (packet_again (Some rtx) (packet_of u number marker (byte ∷ bytes))) (bearing true number (packet_header u number marker) (byte ∷ bytes)))
again_brings reads brings s rtx u number byte marker bytes is by fits fits_rtx =
    let it = packet_of u number marker (byte ∷ bytes) in
    let again = packet_again (Some rtx) it in
    let missing = nack_numbers s.reception in
    let followed : is_packet_followed s again ≡ true =
    ap (λ (media : Option ℕ). unwrap_or (told_of s.types again s.sources.rtx media) (bears_missing missing again)) is.followed
    ∙ by_rtx (rtx.ssrc == u.ssrc) (bears_missing missing again) (resent_type s.types rtx.payload_type) s.sources.rtx rtx.ssrc u.payload_type by.of_type by.known in
    let original = brings s.types it rtx.payload_type rtx.sequence rtx.ssrc fits.sequence by.of_type is.plain ∙ ap recovered (original_sent s u number byte marker bytes is) in
    brought_of reads s again (bearing true number (packet_header u number marker) (byte ∷ bytes)) fits_rtx refl by.no_rtcp followed original
