-- What is written is read, and what is read is written.
use Rattle.std.proofs.Common.{◌≡◌, ℕ, ◌+◌, ◌<◌, ◌≤◌, Bool, true, false, List, [], ◌++◌, length, take, drop, Ok, Err, refl, sym, ap, ◌∙◌, arith}
use Rattle.std.specs.Prelude.{slice_index}
use Rattle.h26x_core.specs.Word.{flag}
use Rattle.h26x_rtp.specs.Rtcp.{IsRtcp}
use Rattle.std.proofs.lemmas.List.{take_at, drop_at, length-take-le, append-nil}
use Rattle.h26x_rtp.specs.declared.error.RtpWriteError.{RtpWriteError}
use Rattle.h26x_rtp.specs.declared.error.RtpWriteError.TheVariants.{PayloadType, Csrcs, Extension, Padding, NoRoom}
use Rattle.h26x_rtp.specs.Datagram.{HeaderParts, DatagramParts, AreBytes, IsDatagram, datagram_header, datagram_bytes}
use Rattle.h26x_rtp.specs.Reading.{datagram_of}
use Rattle.h26x_rtp.specs.Writing.{IsDatagramWritten, IsHeaderWritten, told_size}
use Rattle.h26x_rtp.proofs.ReadingLemmas.{read_is_spelled, spelled_is_read}

-- the front of memory is the packet
front_is : (it : DatagramParts) (old new : List ℕ) (size : ℕ) → IsDatagramWritten it old new (Ok size) → take size new ≡ datagram_bytes it
front_is it old new size (fits, padding, long, room, is) = ap (take size) is ∙ take_at (datagram_bytes it) (drop size old) size (sym long)

pub written_is_read : (it : DatagramParts) (old new : List ℕ) (size : ℕ) → IsDatagramWritten it old new (Ok size) → datagram_of (take size new) ≡ Ok it
written_is_read it old new size is = ap datagram_of (front_is it old new size is) ∙ spelled_is_read it is.0 is.1

pub read_is_written : (bytes : List ℕ) (it : DatagramParts) (old new : List ℕ) (size : ℕ) → AreBytes bytes → datagram_of bytes ≡ Ok it →
    IsDatagramWritten it old new (Ok size) → take size new ≡ bytes
read_is_written bytes it old new size are read is = front_is it old new size is ∙ sym (read_is_spelled bytes it are read).spelled

pub refused_without_room : (bytes : List ℕ) (it : DatagramParts) (old new : List ℕ) (e : RtpWriteError) → AreBytes bytes → datagram_of bytes ≡ Ok it →
    IsDatagramWritten it old new (Err e) → e ≡ NoRoom (told_size bytes)
refused_without_room bytes it old new PayloadType are read (same, fault) = let f = (read_is_spelled bytes it are read).header.payload_type in absurd (omega arith)
refused_without_room bytes it old new Csrcs are read (same, fault) = absurd (fault.1 (read_is_spelled bytes it are read).header.csrcs)
refused_without_room bytes it old new Extension are read (same, fault) = absurd (fault.2 (read_is_spelled bytes it are read).header.extension)
refused_without_room bytes it old new Padding are read (same, fault) = absurd (fault.1 (read_is_spelled bytes it are read).padding)
refused_without_room bytes it old new (NoRoom size) are read (same, fault) =
    ap NoRoom (fault.2 ∙ ap told_size (sym (read_is_spelled bytes it are read).spelled))

-- a header before a payload, and the payload
pub header_before : (it : HeaderParts) (padded : Bool) (place start : ℕ) (old new : List ℕ) → IsHeaderWritten it padded place old new (Ok start) →
    drop start new ≡ datagram_header it padded ++ drop place old
header_before it padded place start old new (fits, ends, within, is) =
    let header = datagram_header it padded in
    let room : start ≤ length old = omega (arith, ends, within) in
    let behind : drop (start + length header) old ≡ drop place old = ap (λ k. drop k old) ends in
    ap (drop start) is ∙ drop_at (take start old) (header ++ drop (start + length header) old) start (length-take-le start old room)
    ∙ ap (λ x. header ++ x) behind

pub packet_before : (it : HeaderParts) (place start : ℕ) (old new : List ℕ) → IsHeaderWritten it false place old new (Ok start) →
    datagram_of (drop start new) ≡ Ok (record { header = it; payload = drop place old; padding = [] })
packet_before it place start old new is =
    let made : DatagramParts = record { header = it; payload = drop place old; padding = [] } in
    let bytes : drop start new ≡ datagram_bytes made = header_before it false place start old new is ∙ ap (λ x. datagram_header it false ++ x) (sym (append-nil (drop place old))) in
    ap datagram_of bytes ∙ spelled_is_read made is.0 refl

-- the second byte of a packet
second_byte : (set : Bool) (n : ℕ) → n < 128 → 192 ≤ flag set 128 + n → flag set 128 + n ≤ 223 → (set ≡ true) × (64 ≤ n) × (n ≤ 95)
second_byte true n h low high = (refl, omega arith, omega arith)
second_byte false n h low high = absurd (omega arith)

pub rtcp_packet : (bytes : List ℕ) (it : DatagramParts) → IsDatagram bytes it → IsRtcp bytes →
    (it.header.marker ≡ true) × (64 ≤ it.header.payload_type) × (it.header.payload_type ≤ 95)
rtcp_packet bytes it is rtcp =
    let at : slice_index bytes 1 ≡ flag it.header.marker 128 + it.header.payload_type = ap (λ b. slice_index b 1) is.spelled in
    let low = rtcp.1 in let high = rtcp.2 in
    second_byte it.header.marker it.header.payload_type is.header.payload_type (omega (arith, at, low)) (omega (arith, at, high))
