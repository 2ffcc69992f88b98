-- The calls of a receiver of datagrams are those of a receiver of access units.
use Rattle.std.proofs.Common.{◌≡◌, ℕ, zero, suc, ◌<◌, ◌≤◌, ◌^◌, Bool, true, false, List, [], ◌∷◌, ◌++◌, drop, length, Option, Some, None, Result, Ok, Err, refl, sym, ap, subst, arith, inl, inr}
use Rattle.std.specs.Prelude.{◌⊎◌, nat_lt, ◌==◌, if◌then◌else◌}
use Rattle.std.specs.List.{flat_map}
use Rattle.std.proofs.lemmas.List.{length-append}
use Rattle.h26x_access_units.specs.Account.{ReceiverCall, AreReceiverCalls, no_call, one_call}
use Rattle.h26x_access_units.specs.Reception.{Reception}
use Rattle.h26x_rtp.specs.Datagram.{AreBytes, HeaderParts, DatagramParts, IsDatagram, datagram_header, is_there}
use Rattle.h26x_rtp.specs.Reading.{datagram_of}
use Rattle.h26x_rtp.specs.Rtcp.{is_rtcp_packet}
use Rattle.h26x_rtp.specs.Red.{RedParts, IsRed, red_of, block_header, block_bytes}
use Rattle.h26x_rtp.specs.Words.{word_at}
use Rattle.h26x_rtp.specs.declared.error.RtpError.{RtpError}
use Rattle.h26x_rtp.specs.declared.red.RedError.{RedError}
use Rattle.h26x_rtp_receiver.specs.declared.original.RtpOriginal.{RtpOriginal}
use Rattle.h26x_rtp_receiver.specs.declared.original.NoMedia.TheVariants.{Fec, OtherPayloadType}
use Rattle.h26x_rtp_receiver.specs.declared.payload_types.RtpPayloadTypes.{RtpPayloadTypes}
use Rattle.h26x_rtp_receiver.specs.declared.pushed.RtpPushed.{RtpPushed}
use Rattle.h26x_rtp_receiver.specs.declared.pushed.RtpPushError.{RtpPushError}
use Rattle.h26x_rtp_receiver.specs.Original.{is_type, resent_type, bearing, bearing_none, with_type, with_red, with_payload, there, original_by, original_of}
use Rattle.h26x_rtp_receiver.specs.RtpReception.{RtpReception, Brought, Told, Brings, other_source, brought_by, brought_read, brought, is_packet_followed, BecomesOf, LacksWantedMemory}
use Rattle.h26x_rtp_receiver.specs.RtpCalls.{RtpCall, PushRtp, NextRtp, LackRtp, FinishRtp, FollowRtp, SettingsRtp, AskRtp, IsRtpCall, AreRtpCalls, no_rtp_call, one_rtp_call, given_calls, given_by}

-- bytes in front of others and behind others are bytes
bytes_front : (xs ys : List ℕ) → AreBytes (xs ++ ys) → AreBytes xs
bytes_front [] ys h place = omega arith
bytes_front (x ∷ xs) ys h zero = h zero
bytes_front (x ∷ xs) ys h (suc place) = bytes_front xs ys (λ k. h (suc k)) place

bytes_behind : (xs ys : List ℕ) → AreBytes (xs ++ ys) → AreBytes ys
bytes_behind [] ys h = h
bytes_behind (x ∷ xs) ys h = bytes_behind xs ys (λ k. h (suc k))

-- the payload of a packet is of bytes, and no longer than the packet
payload_bytes : (bytes : List ℕ) (it : DatagramParts) → IsDatagram bytes it → AreBytes bytes → AreBytes it.payload
payload_bytes bytes it is h =
    bytes_front it.payload it.padding (bytes_behind (datagram_header it.header (is_there it.padding)) (it.payload ++ it.padding) (subst AreBytes is.spelled h))

payload_within : (bytes : List ℕ) (it : DatagramParts) → IsDatagram bytes it → length it.payload ≤ length bytes
payload_within bytes it is =
    let a = length-append (datagram_header it.header (is_there it.padding)) (it.payload ++ it.padding) in
    let b = length-append it.payload it.padding in
    subst (λ (l : List ℕ). length it.payload ≤ length l) (sym is.spelled) (rw (a, b) (omega arith))

primary_within : (bytes : List ℕ) (red : RedParts) → IsRed bytes red → length red.primary ≤ length bytes
primary_within bytes red is =
    let a = length-append (flat_map block_header red.blocks) (red.payload_type ∷ (flat_map block_bytes red.blocks ++ red.primary)) in
    let b = length-append (flat_map block_bytes red.blocks) red.primary in
    subst (λ (l : List ℕ). length red.primary ≤ length l) (sym is.spelled) (rw (a, b) (omega arith))

-- a packet that has a number of 16 bits, and a payload within so many bytes
record Fits (most : ℕ) (it : RtpOriginal) : Type 0 where
  pub number : it.packet.0 < 65536
  pub payload : length it.packet.1.payload ≤ most

abbrev FitsIfFound : ℕ → Result (Option RtpOriginal) RedError → Type 0
FitsIfFound most (Ok (Some it)) = Fits most it
FitsIfFound most answer = Unit {0}

chosen_fits : (again : Bool) (n : ℕ) (h : HeaderParts) (payload_type : ℕ) (payload : List ℕ) (most : ℕ) (is_media is_fec : Bool) → n < 65536 → length payload ≤ most →
    Fits most (if is_media then bearing again n h payload else if is_fec then bearing_none again n Fec else bearing_none again n (OtherPayloadType payload_type))
chosen_fits again n h payload_type payload most true is_fec few short = record { number = few; payload = short }
chosen_fits again n h payload_type payload most false true few short = record { number = few; payload = omega arith }
chosen_fits again n h payload_type payload most false false few short = record { number = few; payload = omega arith }

type_fits : (types : RtpPayloadTypes) (again : Bool) (n : ℕ) (h : HeaderParts) (payload_type : ℕ) (payload : List ℕ) (most : ℕ) → n < 65536 → length payload ≤ most →
    Fits most (with_type types again n h payload_type payload)
type_fits types again n h payload_type [] most few short = record { number = few; payload = omega arith }
type_fits types again n h payload_type (byte ∷ bytes) most few short =
    chosen_fits again n h payload_type (byte ∷ bytes) most (payload_type == types.media) (is_type types.fec payload_type) few short

abbrev RedIsRead : Type 0
RedIsRead = (bytes : List ℕ) (it : RedParts) → AreBytes bytes → red_of bytes ≡ Ok it → IsRed bytes it

red_fits : RedIsRead → (types : RtpPayloadTypes) (again : Bool) (n : ℕ) (h : HeaderParts) (bytes : List ℕ) (red : Result RedParts RedError) → n < 65536 → AreBytes bytes →
    red_of bytes ≡ red → FitsIfFound (length bytes) (there (with_red types again n h red))
red_fits reads types again n h bytes (Ok red) few are is =
    type_fits types again n h red.payload_type red.primary (length bytes) few (primary_within bytes red (reads bytes red are is))
red_fits reads types again n h bytes (Err e) few are is = tt

either_fits : (most : ℕ) (is : Bool) (x y : Result RtpOriginal RedError) → FitsIfFound most (there x) → FitsIfFound most (there y) →
    FitsIfFound most (there (if is then x else y))
either_fits most true x y hx hy = hx
either_fits most false x y hx hy = hy

payload_fits : RedIsRead → (types : RtpPayloadTypes) (again : Bool) (n : ℕ) (h : HeaderParts) (payload_type : ℕ) (payload : List ℕ) → n < 65536 → AreBytes payload →
    FitsIfFound (length payload) (there (with_payload types again n h payload_type payload))
payload_fits reads types again n h payload_type [] few are = record { number = few; payload = omega arith }
payload_fits reads types again n h payload_type (byte ∷ bytes) few are =
    either_fits (length (byte ∷ bytes)) (is_type types.red payload_type) (with_red types again n h (red_of (byte ∷ bytes))) (Ok (with_type types again n h payload_type (byte ∷ bytes)))
    (red_fits reads types again n h (byte ∷ bytes) (red_of (byte ∷ bytes)) few are refl)
    (type_fits types again n h payload_type (byte ∷ bytes) (length (byte ∷ bytes)) few (omega arith))

-- what fits fewer bytes fits more
more_fits : (least most : ℕ) (x : Result (Option RtpOriginal) RedError) → least ≤ most → FitsIfFound least x → FitsIfFound most x
more_fits least most (Ok (Some it)) le h = record { number = h.number; payload = let p = h.payload in omega arith }
more_fits least most (Ok None) le h = tt
more_fits least most (Err e) le h = tt

-- behind two bytes there are fewer
behind_two : (bytes : List ℕ) → length (drop 2 bytes) ≤ length bytes
behind_two [] = omega arith
behind_two (a ∷ []) = omega arith
behind_two (a ∷ b ∷ bytes) = omega arith

bytes_behind_two : (bytes : List ℕ) → AreBytes bytes → AreBytes (drop 2 bytes)
bytes_behind_two [] h = h
bytes_behind_two (a ∷ []) h = λ place. omega arith
bytes_behind_two (a ∷ b ∷ bytes) h = λ place. h (suc (suc place))

unless_short_fits : (most : ℕ) (short : Bool) (x : Result (Option RtpOriginal) RedError) → FitsIfFound most x → FitsIfFound most (if short then Ok None else x)
unless_short_fits most true x h = tt
unless_short_fits most false x h = h

original_fits : RedIsRead → (types : RtpPayloadTypes) (it : DatagramParts) (resent : Option ℕ) → it.header.sequence < 65536 → AreBytes it.payload →
    FitsIfFound (length it.payload) (original_by types it resent)
original_fits reads types it None few are = payload_fits reads types false it.header.sequence it.header it.header.payload_type it.payload few are
original_fits reads types it (Some payload_type) few are =
    let high = are 0 in
    let low = are 1 in
    let number : word_at it.payload 0 < 65536 = omega (arith, high, low) in
    unless_short_fits (length it.payload) (nat_lt (length it.payload) 2) _
    (more_fits (length (drop 2 it.payload)) (length it.payload) _ (behind_two it.payload)
    (payload_fits reads types true (word_at it.payload 0) it.header payload_type (drop 2 it.payload) number (bytes_behind_two it.payload are)))

-- so is what a datagram brings
abbrev FitsIfBrought : ℕ → Result Brought RtpPushError → Type 0
FitsIfBrought most (Ok (Brings it original)) = Fits most original
FitsIfBrought most answer = Unit {0}

found_fits : (most : ℕ) (it : DatagramParts) (x : Result (Option RtpOriginal) RedError) → FitsIfFound most x → FitsIfBrought most (brought_by it x)
found_fits most it (Ok (Some original)) h = h
found_fits most it (Ok None) h = tt
found_fits most it (Err e) h = tt

if_followed : (most : ℕ) (is : Bool) (x : Result Brought RtpPushError) (pushed : RtpPushed) → FitsIfBrought most x → FitsIfBrought most (if is then x else Ok (Told pushed))
if_followed most true x pushed h = h
if_followed most false x pushed h = tt

abbrev PacketIsRead : Type 0
PacketIsRead = (bytes : List ℕ) (it : DatagramParts) → AreBytes bytes → datagram_of bytes ≡ Ok it → IsDatagram bytes it

read_fits : PacketIsRead → RedIsRead → (s : RtpReception) (bytes : List ℕ) (it : Result DatagramParts RtpError) → AreBytes bytes → datagram_of bytes ≡ it →
    FitsIfBrought (length bytes) (brought_read s it)
read_fits packets reads s bytes (Err e) are is = tt
read_fits packets reads s bytes (Ok it) are is =
    let read = packets bytes it are is in
    if_followed (length bytes) (is_packet_followed s it) (brought_by it (original_of s.types it)) (other_source s.types it.header)
    (found_fits (length bytes) it (original_of s.types it)
    (more_fits (length it.payload) (length bytes) (original_of s.types it) (payload_within bytes it read)
    (original_fits reads s.types it (resent_type s.types it.header.payload_type) read.header.sequence (payload_bytes bytes it read are))))

unless_rtcp : (most : ℕ) (is : Bool) (pushed : RtpPushed) (x : Result Brought RtpPushError) → FitsIfBrought most x → FitsIfBrought most (if is then Ok (Told pushed) else x)
unless_rtcp most true pushed x h = tt
unless_rtcp most false pushed x h = h

brought_fits : PacketIsRead → RedIsRead → (s : RtpReception) (bytes : List ℕ) → AreBytes bytes → FitsIfBrought (length bytes) (brought s bytes)
brought_fits packets reads s bytes are =
    unless_rtcp (length bytes) (is_rtcp_packet bytes) _ (brought_read s (datagram_of bytes)) (read_fits packets reads s bytes (datagram_of bytes) are refl)

-- where all is as it was no call was made
same_state : (s new : RtpReception) → new ≡ s → AreReceiverCalls s.reception [] new.reception
same_state s new is = subst (λ (t : RtpReception). AreReceiverCalls s.reception [] t.reception) (sym is) no_call

refused_gives_none : (now : ℕ) (b : Result Brought RtpPushError) (e : RtpPushError) → given_by now b (Err e) ≡ []
refused_gives_none now (Ok (Told pushed)) e = refl
refused_gives_none now (Ok (Brings it original)) e = refl
refused_gives_none now (Err other) e = refl

-- what becomes of what a datagram brings is given so
lacking_given : (now : ℕ) (wants : Bool) (s new : RtpReception) (b : Result Brought RtpPushError) (result : Result RtpPushed RtpPushError) → LacksWantedMemory wants s result new →
    AreReceiverCalls s.reception (given_by now b result) new.reception
lacking_given now wants s new b result lacks =
    subst (λ (r : Result RtpPushed RtpPushError). AreReceiverCalls s.reception (given_by now b r) new.reception) (sym lacks.lacks)
    (subst (λ (given : List ReceiverCall). AreReceiverCalls s.reception given new.reception) (sym (refused_gives_none now b _)) (same_state s new lacks.stands))

become_given : (now arrival most : ℕ) (s new : RtpReception) (b : Result Brought RtpPushError) (result : Result RtpPushed RtpPushError) → most < 2 ^ 64 → FitsIfBrought most b →
    BecomesOf now arrival s b result new → AreReceiverCalls s.reception (given_by now b result) new.reception
become_given now arrival most s new (Err e) result few fits it = same_state s new it.1
become_given now arrival most s new (Ok (Told pushed)) result few fits it = same_state s new it.1
become_given now arrival most s new (Ok (Brings packet original)) result few fits it =
    let short = fits.payload in
    subst (λ (r : Result RtpPushed RtpPushError). AreReceiverCalls s.reception (given_by now (Ok (Brings packet original)) r) new.reception) (sym it.0)
    (one_call no_call (fits.number, omega (arith, few, short), refl, it.1.given))

push_given : (now arrival most : ℕ) (wants : Bool) (s new : RtpReception) (b : Result Brought RtpPushError) (result : Result RtpPushed RtpPushError) → most < 2 ^ 64 → FitsIfBrought most b →
    LacksWantedMemory wants s result new ⊎ BecomesOf now arrival s b result new → AreReceiverCalls s.reception (given_by now b result) new.reception
push_given now arrival most wants s new b result few fits (inl lacks) = lacking_given now wants s new b result lacks
push_given now arrival most wants s new b result few fits (inr it) = become_given now arrival most s new b result few fits it

-- each call
call_given : PacketIsRead → RedIsRead → (call : RtpCall) (s new : RtpReception) → IsRtpCall call s new → AreReceiverCalls s.reception (given_calls s call) new.reception
call_given packets reads (PushRtp now arrival datagram result) s new it =
    push_given now arrival (length datagram) _ s new (brought s datagram) result it.1 (brought_fits packets reads s datagram it.0) it.2
call_given packets reads (NextRtp now unit) s new it = one_call no_call it.given
call_given packets reads (LackRtp now) s new it = one_call no_call it.given
call_given packets reads FinishRtp s new it = one_call no_call (ap (λ (t : RtpReception). t.reception) it)
call_given packets reads (FollowRtp sources) s new it = one_call no_call (ap (λ (t : RtpReception). t.reception) it)
call_given packets reads (SettingsRtp config) s new it = one_call no_call (ap (λ (t : RtpReception). t.reception) it)
call_given packets reads AskRtp s new it = subst (λ (t : Reception). AreReceiverCalls s.reception [] t) (sym it) no_call

-- calls behind others
calls_behind : (s t u : Reception) (later before : List ReceiverCall) → AreReceiverCalls s before t → AreReceiverCalls t later u → AreReceiverCalls s (later ++ before) u
calls_behind s t u [] before first no_call = first
calls_behind s t u (call ∷ later) before first (one_call {t = v} others is) = one_call (calls_behind s t v later before first others) is

pub calls_given : PacketIsRead → RedIsRead → (s new : RtpReception) (calls : List RtpCall) (given : List ReceiverCall) → AreRtpCalls s calls given new →
    AreReceiverCalls s.reception given new.reception
calls_given packets reads s new calls given no_rtp_call = no_call
calls_given packets reads s new calls given (one_rtp_call {call = call} {before = before} {given = earlier} {t = t} others it) =
    calls_behind s.reception t.reception new.reception (given_calls t call) earlier (calls_given packets reads s t before earlier others) (call_given packets reads call t new it)
