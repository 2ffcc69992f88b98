-- What packets bring of their stream, by its number and once more by RTX.
use Rattle.std.proofs.Common.{◌≡◌, ℕ, ◌+◌, ◌*◌, ◌/◌, ◌%◌, ◌<◌, Bool, true, false, List, [], ◌∷◌, drop, length, Option, Some, None, Result, Ok, Err, refl, ap, arith}
use Rattle.std.specs.Prelude.{nat_lt, ◌==◌, if◌then◌else◌}
use Rattle.std.proofs.lemmas.Bool.Decides.{nat_tests}
use Rattle.h26x_rtp.specs.Datagram.{HeaderParts, DatagramParts}
use Rattle.h26x_rtp.specs.Red.{RedParts, red_of}
use Rattle.h26x_rtp.specs.Rtx.{in_stream, rtx_bytes, retransmission_of}
use Rattle.h26x_rtp.specs.Words.{word_at}
use Rattle.h26x_rtp.specs.declared.red.RedError.{RedError}
use Rattle.h26x_rtp_receiver.specs.declared.payload_types.RtpPayloadTypes.{RtpPayloadTypes}
use Rattle.h26x_rtp_receiver.specs.declared.original.RtpOriginal.{RtpOriginal}
use Rattle.h26x_rtp_receiver.specs.declared.original.NoMedia.TheVariants.{Fec, OtherPayloadType}
use Rattle.h26x_rtp_receiver.specs.Original.{is_type, resent_type, bearing, bearing_none, with_type, with_red, with_payload, there, original_of, recovered, IsOfNumber, BringsOfNumber}

-- what bears nothing, or a payload of the codec, has its number
numbered : (again : Bool) (n : ℕ) (h : HeaderParts) (payload_type : ℕ) (payload : List ℕ) (is_media is_fec : Bool) →
    IsOfNumber n (if is_media then bearing again n h payload else if is_fec then bearing_none again n Fec else bearing_none again n (OtherPayloadType payload_type))
numbered again n h payload_type payload true is_fec = record { number = refl; nothing = tt }
numbered again n h payload_type payload false true = record { number = refl; nothing = refl }
numbered again n h payload_type payload false false = record { number = refl; nothing = refl }

type_numbered : (types : RtpPayloadTypes) (again : Bool) (n : ℕ) (h : HeaderParts) (payload_type : ℕ) (payload : List ℕ) →
    IsOfNumber n (with_type types again n h payload_type payload)
type_numbered types again n h payload_type [] = record { number = refl; nothing = refl }
type_numbered types again n h payload_type (byte ∷ bytes) =
    numbered again n h payload_type (byte ∷ bytes) (payload_type == types.media) (is_type types.fec payload_type)

red_numbered : (types : RtpPayloadTypes) (again : Bool) (n : ℕ) (h : HeaderParts) (red : Result RedParts RedError) →
    BringsOfNumber n (there (with_red types again n h red))
red_numbered types again n h (Ok red) = type_numbered types again n h red.payload_type red.primary
red_numbered types again n h (Err e) = tt

either_numbered : (n : ℕ) (is : Bool) (x y : Result RtpOriginal RedError) → BringsOfNumber n (there x) → BringsOfNumber n (there y) →
    BringsOfNumber n (there (if is then x else y))
either_numbered n true x y hx hy = hx
either_numbered n false x y hx hy = hy

payload_numbered : (types : RtpPayloadTypes) (again : Bool) (n : ℕ) (h : HeaderParts) (payload_type : ℕ) (payload : List ℕ) →
    BringsOfNumber n (there (with_payload types again n h payload_type payload))
payload_numbered types again n h payload_type [] = record { number = refl; nothing = refl }
payload_numbered types again n h payload_type (byte ∷ bytes) =
    either_numbered n (is_type types.red payload_type) (with_red types again n h (red_of (byte ∷ bytes))) (Ok (with_type types again n h payload_type (byte ∷ bytes)))
    (red_numbered types again n h (red_of (byte ∷ bytes))) (type_numbered types again n h payload_type (byte ∷ bytes))

pub own_numbered : (types : RtpPayloadTypes) (it : DatagramParts) → resent_type types it.header.payload_type ≡ None →
    BringsOfNumber it.header.sequence (original_of types it)
own_numbered types it none = rw none (payload_numbered types false it.header.sequence it.header it.header.payload_type it.payload)

unless_short : (n : ℕ) (short : Bool) (x : Result (Option RtpOriginal) RedError) → BringsOfNumber n x →
    BringsOfNumber n (if short then Ok None else x)
unless_short n true x h = tt
unless_short n false x h = h

pub resent_numbered : (types : RtpPayloadTypes) (it : DatagramParts) (payload_type : ℕ) → resent_type types it.header.payload_type ≡ Some payload_type →
    BringsOfNumber (word_at it.payload 0) (original_of types it)
resent_numbered types it payload_type is = rw is
    (unless_short (word_at it.payload 0) (nat_lt (length it.payload) 2) _
    (payload_numbered types true (word_at it.payload 0) it.header payload_type (drop 2 it.payload)))

-- the same with the header of a retransmission, recovered
again_of : (n a b c : ℕ) (h : HeaderParts) (payload_type : ℕ) (payload : List ℕ) (is_media is_fec : Bool) →
    (if is_media then bearing true n (in_stream h a b c) payload else if is_fec then bearing_none true n Fec else bearing_none true n (OtherPayloadType payload_type))
    ≡ record (if is_media then bearing false n h payload else if is_fec then bearing_none false n Fec else bearing_none false n (OtherPayloadType payload_type)) { is_recovered = true }
again_of n a b c h payload_type payload true is_fec = refl
again_of n a b c h payload_type payload false true = refl
again_of n a b c h payload_type payload false false = refl

type_again : (types : RtpPayloadTypes) (n a b c : ℕ) (h : HeaderParts) (payload_type : ℕ) (payload : List ℕ) →
    with_type types true n (in_stream h a b c) payload_type payload ≡ record (with_type types false n h payload_type payload) { is_recovered = true }
type_again types n a b c h payload_type [] = refl
type_again types n a b c h payload_type (byte ∷ bytes) =
    again_of n a b c h payload_type (byte ∷ bytes) (payload_type == types.media) (is_type types.fec payload_type)

red_again : (types : RtpPayloadTypes) (n a b c : ℕ) (h : HeaderParts) (red : Result RedParts RedError) →
    there (with_red types true n (in_stream h a b c) red) ≡ recovered (there (with_red types false n h red))
red_again types n a b c h (Ok red) = ap (λ (it : RtpOriginal). Ok (Some it)) (type_again types n a b c h red.payload_type red.primary)
red_again types n a b c h (Err e) = refl

either_again : (is : Bool) (x y p q : Result RtpOriginal RedError) → there x ≡ recovered (there p) → there y ≡ recovered (there q) →
    there (if is then x else y) ≡ recovered (there (if is then p else q))
either_again true x y p q hx hy = hx
either_again false x y p q hx hy = hy

payload_again : (types : RtpPayloadTypes) (n a b c : ℕ) (h : HeaderParts) (payload_type : ℕ) (payload : List ℕ) →
    there (with_payload types true n (in_stream h a b c) payload_type payload) ≡ recovered (there (with_payload types false n h payload_type payload))
payload_again types n a b c h payload_type [] = refl
payload_again types n a b c h payload_type (byte ∷ bytes) =
    either_again (is_type types.red payload_type) (with_red types true n (in_stream h a b c) (red_of (byte ∷ bytes)))
    (Ok (with_type types true n (in_stream h a b c) payload_type (byte ∷ bytes)))
    (with_red types false n h (red_of (byte ∷ bytes))) (Ok (with_type types false n h payload_type (byte ∷ bytes)))
    (red_again types n a b c h (red_of (byte ∷ bytes)))
    (ap (λ (it : RtpOriginal). Ok (Some it)) (type_again types n a b c h payload_type (byte ∷ bytes)))

pub retransmission_brings : (types : RtpPayloadTypes) (it : DatagramParts) (payload_type sequence ssrc : ℕ) → it.header.sequence < 65536 →
    resent_type types payload_type ≡ Some it.header.payload_type → resent_type types it.header.payload_type ≡ None →
    original_of types (retransmission_of it payload_type sequence ssrc) ≡ recovered (original_of types it)
retransmission_brings types it payload_type sequence ssrc fits is none =
    let number : it.header.sequence / 256 % 256 * 256 + it.header.sequence % 256 ≡ it.header.sequence = omega arith in
    let long : nat_lt (length (rtx_bytes it.header.sequence it.payload)) 2 ≡ false = grind (arith, nat_tests) in
    rw (is, none, long, number) (payload_again types it.header.sequence payload_type sequence ssrc it.header it.header.payload_type it.payload)
