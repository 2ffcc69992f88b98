-- A packet that bears the codec's payload by itself brings itself.
use Rattle.std.proofs.Common.{◌≡◌, ℕ, Bool, true, false, List, [], ◌∷◌, Option, Some, None, Result, Ok, refl, sym, ap, ◌∙◌, arith}
use Rattle.std.specs.Prelude.{nat_eq, is_some, not, ◌||◌, ◌&&◌, if◌then◌else◌}
use Rattle.std.specs.Option.{unwrap_or}
use Rattle.std.proofs.lemmas.Bool.Decides.{nat_tests}
use Rattle.h26x_access_units.specs.Reception.{nack_numbers}
use Rattle.h26x_rtp.specs.Datagram.{HeaderParts, DatagramParts, is_there}
use Rattle.h26x_rtp_receiver.specs.declared.payload_types.RtpPayloadTypes.{RtpPayloadTypes}
use Rattle.h26x_rtp_receiver.specs.declared.pushed.RtpPushed.{RtpPushed}
use Rattle.h26x_rtp_receiver.specs.declared.pushed.RtpPushError.{RtpPushError}
use Rattle.h26x_rtp_receiver.specs.declared.sources.RtpSources.{RtpSources}
use Rattle.h26x_rtp_receiver.specs.Original.{is_type, is_type_of_rtcp, resent_type, plain_type, bearing, plain_original, with_payload, there, original_by, original_of}
use Rattle.h26x_rtp_receiver.specs.Plain.{is_plain_packet}
use Rattle.h26x_rtp_receiver.specs.RtpReception.{RtpReception, Told, Brings, other_source, brought_by, brought_original, brought_packet, brings_kept, wants_memory, IsOriginalPush, IsPacketPush}
use Rattle.h26x_rtp_receiver.specs.Sources.{told_of, told, bears_missing, sources_by, sources_with}

both : (a b : Bool) → (a && b) ≡ true → (a ≡ true) × (b ≡ true)
both true b h = (refl, h)
both false b h = absurd cc

neither : (a b : Bool) → (a || b) ≡ false → (a ≡ false) × (b ≡ false)
neither true b h = absurd cc
neither false b h = (refl, h)

none_of : (x : Option ℕ) → is_some x ≡ false → x ≡ None
none_of None h = refl
none_of (Some x) h = absurd cc

this_one : (it : Option ℕ) (n : ℕ) → is_type it n ≡ true → it ≡ Some n
this_one None n h = absurd cc
this_one (Some m) n h = let e : m ≡ n = grind (arith, nat_tests, h) in ap (λ k. Some k) e

unless_odd : (odd : Bool) (media n : ℕ) → (if odd then None else Some media) ≡ Some n → (odd ≡ false) × (media ≡ n)
unless_odd true media n h = absurd cc
unless_odd false media n h = (refl, cc)

-- a plain payload type is the codec's, and neither that of RTX nor of RED
plain_types : (types : RtpPayloadTypes) (n : ℕ) → is_type (plain_type types) n ≡ true →
    (resent_type types n ≡ None) × (is_type types.red n ≡ false) × (types.media ≡ n)
plain_types types n h =
    let odd = is_some (resent_type types types.media) || is_type types.red types.media in
    let a = unless_odd (odd || is_type_of_rtcp types.media) types.media n (this_one (plain_type types) n h) in
    let b = neither odd (is_type_of_rtcp types.media) a.0 in
    let c = neither (is_some (resent_type types types.media)) (is_type types.red types.media) b.0 in
    (ap (resent_type types) (sym a.1) ∙ none_of (resent_type types types.media) c.0, ap (is_type types.red) (sym a.1) ∙ c.1, a.1)

plain_payload : (types : RtpPayloadTypes) (n : ℕ) (h : HeaderParts) (payload_type : ℕ) (payload : List ℕ) → is_there payload ≡ true →
    is_type types.red payload_type ≡ false → nat_eq payload_type types.media ≡ true →
    with_payload types false n h payload_type payload ≡ Ok (bearing false n h payload)
plain_payload types n h payload_type [] some red media = absurd cc
plain_payload types n h payload_type (byte ∷ bytes) some red media = rw (red, media) refl

plain_is_original : (types : RtpPayloadTypes) (it : DatagramParts) → is_type (plain_type types) it.header.payload_type ≡ true → is_there it.payload ≡ true →
    original_of types it ≡ Ok (Some (plain_original it))
plain_is_original types it plain some =
    let a = plain_types types it.header.payload_type plain in
    let m = a.2 in
    let media : nat_eq it.header.payload_type types.media ≡ true = grind (arith, nat_tests, m) in
    ap (original_by types it) a.0 ∙ ap there (plain_payload types it.header.sequence it.header it.header.payload_type it.payload some a.1 media)

plain_told : (types : RtpPayloadTypes) (s : RtpSources) (it : DatagramParts) → s.media ≡ Some it.header.ssrc → told types s it ≡ Some true
plain_told types s it is =
    let same : nat_eq it.header.ssrc it.header.ssrc ≡ true = grind (arith, nat_tests) in
    ap (told_of types it s.rtx) is ∙ rw same refl

-- a plain packet is of the stream, and brings itself
record BringsItself (s : RtpReception) (it : DatagramParts) : Type 0 where
  pub brought : brought_packet s it ≡ Ok (Brings it (plain_original it))
  pub wants : wants_memory s it ≡ brings_kept s (Ok (Brings it (plain_original it)))

plain_brings : (s : RtpReception) (it : DatagramParts) → is_plain_packet s it ≡ true → BringsItself s it
plain_brings s it h =
    let one = both (is_type s.sources.media it.header.ssrc) (is_type (plain_type s.types) it.header.payload_type && is_there it.payload) h in
    let two = both (is_type (plain_type s.types) it.header.payload_type) (is_there it.payload) one.1 in
    let is = this_one s.sources.media it.header.ssrc one.0 in
    let t = plain_told s.types s.sources it is in
    let o = plain_is_original s.types it two.0 two.1 in
    let b : brought_packet s it ≡ Ok (Brings it (plain_original it)) =
    ap (λ (x : Option Bool). if unwrap_or x (bears_missing (nack_numbers s.reception) it) then brought_original s.types it else Ok (Told (other_source s.types it.header))) t
    ∙ ap (brought_by it) o in
    record {
      brought = b;
      wants = ap (λ (x : Option Bool). not (is_some x) || brings_kept s (brought_packet s it)) t ∙ ap (brings_kept s) b;
    }

-- so what is taken of it as itself is what comes of it
pub plain_push : (now arrival : ℕ) (s : RtpReception) (it : DatagramParts) (result : Result RtpPushed RtpPushError) (new : RtpReception) → is_plain_packet s it ≡ true →
    IsOriginalPush now arrival s it (plain_original it) result new → IsPacketPush now arrival s it result new
plain_push now arrival s it result new h push =
    let is = plain_brings s it h in
    rw (is.wants, is.brought) push

-- and the sources stay, by the first of the tests
pub plain_sources : (sources : RtpSources) (ssrc : ℕ) (rest : Bool) → (is_type sources.media ssrc && rest) ≡ true → sources_with ssrc sources ≡ sources
plain_sources sources ssrc rest h =
    let is = this_one sources.media ssrc (both (is_type sources.media ssrc) rest h).0 in
    let same : nat_eq ssrc ssrc ≡ true = grind (arith, nat_tests) in
    ap (sources_by ssrc sources) is ∙ rw same refl
