-- What the laws say.
use Rattle.std.proofs.Common.{◌≡◌, ◌≢◌, ℕ, zero, suc, ◌+◌, ◌-◌, ◌<◌, ◌≤◌, ◌%◌, ◌==◌, Bool, true, false, cond, ◌&&◌, if◌then◌else◌, nat_eq, nat_le, List, [], ◌∷◌, ◌++◌, length, length-append, get_or, take, drop, Option, Some, None, Ok, IfSome, refl, sym, ap, ◌∙◌, arith, append_assoc, append-nil, subst}
use borrow.Author.Tests.{eqb-true}
use Rattle.std.specs.List.{AllByRecursion}
use Rattle.std.proofs.lemmas.Bool.Decides.{nat_tests}
use Rattle.std.proofs.lemmas.List.{drop_at, length-take-le}
use Rattle.h26x_core.specs.Sequence.{next_sequence_number}
use Rattle.h26x_packetizer.specs.Buffer.{headed, headed_at}
use Rattle.h26x_rtp.specs.Datagram.{DatagramParts, HeaderFits, IsDatagram, datagram_header, datagram_bytes}
use Rattle.h26x_rtp.specs.Reading.{datagram_of}
use Rattle.h26x_rtp_sender.specs.Sent.{UnitParts, packet_header, packet_of, numbered_packets}
use Rattle.h26x_rtp_sender.specs.History.{are_within, last_within, held_of}
use Rattle.h26x_rtp_sender.specs.Sending.{headed_from}
use Rattle.h26x_rtp_sender.proofs.HistoryLemmas.{last_kept}

pub packets_count : (u : UnitParts) (first : ℕ) (payloads : List (List ℕ)) → length (numbered_packets u first payloads) ≡ length payloads
packets_count u first [] = refl
packets_count u first (payload ∷ payloads) = ap suc (packets_count u (next_sequence_number first) payloads)

pub packet_at : (u : UnitParts) (first place : ℕ) (payloads : List (List ℕ)) → first < 65536 → place < length payloads →
    drop place (numbered_packets u first payloads)
    ≡ packet_of u ((first + place) % 65536) (place + 1 == length payloads) (get_or payloads place []) ∷ drop (place + 1) (numbered_packets u first payloads)
packet_at u first place [] fits within = absurd (omega arith)
packet_at u first zero (payload ∷ payloads) fits within =
    let number : (first + 0) % 65536 ≡ first = omega (arith, fits) in
    let last : (0 + 1 == length (payload ∷ payloads)) ≡ nat_eq (length payloads) 0 = grind (arith, nat_tests) in
    rw (number, last) refl
packet_at u first (suc place) (payload ∷ payloads) fits within =
    let after = next_sequence_number first in
    let less : after < 65536 = omega arith in
    let number : (first + suc place) % 65536 ≡ (after + place) % 65536 = omega arith in
    let last : (suc place + 1 == length (payload ∷ payloads)) ≡ (place + 1 == length payloads) = grind (arith, nat_tests) in
    let behind : suc place + 1 ≡ suc (place + 1) = omega arith in
    rw (number, last, behind) (packet_at u after place payloads less (omega (arith, within)))

fits_at : (u : UnitParts) (sequence : ℕ) (marker : Bool) → HeaderFits (packet_header u 0 false) → sequence < 65536 → HeaderFits (packet_header u sequence marker)
fits_at u sequence marker fits less = record {
  payload_type = fits.payload_type;
  sequence = less;
  timestamp = fits.timestamp;
  ssrc = fits.ssrc;
  csrcs = fits.csrcs;
  extension = fits.extension;
}

pub packets_read : ((bytes : List ℕ) (it : DatagramParts) → IsDatagram bytes it → datagram_of bytes ≡ Ok it) → (u : UnitParts) (first : ℕ) (payloads : List (List ℕ)) →
    HeaderFits (packet_header u 0 false) → first < 65536 → AllByRecursion (λ (it : DatagramParts). datagram_of (datagram_bytes it) ≡ Ok it) (numbered_packets u first payloads)
packets_read reads u first [] fits less = tt
packets_read reads u first (payload ∷ payloads) fits less =
    let marker = nat_eq (length payloads) 0 in
    let it = packet_of u first marker payload in (
      reads (datagram_bytes it) it (record { spelled = refl; header = fits_at u first marker fits less; padding = refl }),
      packets_read reads u (next_sequence_number first) payloads fits (omega arith),
    )

-- headrooms at other places stay
headed_other : (i j : ℕ) (header : List ℕ) (rooms : List (List ℕ)) → i ≢ j → get_or (headed_at i header rooms) j [] ≡ get_or rooms j []
headed_other i j header [] other = refl
headed_other zero zero header (room ∷ rooms) other = absurd (other refl)
headed_other zero (suc j) header (room ∷ rooms) other = refl
headed_other (suc i) zero header (room ∷ rooms) other = refl
headed_other (suc i) (suc j) header (room ∷ rooms) other = headed_other i j header rooms (λ e. other (ap suc e))

headed_here : (i : ℕ) (header : List ℕ) (rooms : List (List ℕ)) → i < length rooms → get_or (headed_at i header rooms) i [] ≡ headed header (get_or rooms i [])
headed_here i header [] within = absurd (omega arith)
headed_here zero header (room ∷ rooms) within = refl
headed_here (suc i) header (room ∷ rooms) within = headed_here i header rooms (omega (arith, within))

headed_count : (i : ℕ) (header : List ℕ) (rooms : List (List ℕ)) → length (headed_at i header rooms) ≡ length rooms
headed_count i header [] = refl
headed_count zero header (room ∷ rooms) = refl
headed_count (suc i) header (room ∷ rooms) = ap suc (headed_count i header rooms)

-- those before the first stay
before_first : (i j : ℕ) (headers rooms : List (List ℕ)) → j < i → get_or (headed_from i headers rooms) j [] ≡ get_or rooms j []
before_first i j [] rooms less = refl
before_first i j (header ∷ headers) rooms less =
    before_first (i + 1) j headers (headed_at i header rooms) (omega (arith, less)) ∙ headed_other i j header rooms (λ e. absurd (omega (arith, e, less)))

from_first : (i k : ℕ) (headers rooms : List (List ℕ)) → k < length headers → i + k < length rooms →
    get_or (headed_from i headers rooms) (i + k) [] ≡ headed (get_or headers k []) (get_or rooms (i + k) [])
from_first i k [] rooms some within = absurd (omega arith)
from_first i zero (header ∷ headers) rooms some within =
    let place : i + 0 ≡ i = omega arith in
    rw place (before_first (i + 1) i headers (headed_at i header rooms) (omega arith) ∙ headed_here i header rooms (omega (arith, within)))
from_first i (suc k) (header ∷ headers) rooms some within =
    let place : i + suc k ≡ i + 1 + k = omega arith in
    let count = headed_count i header rooms in
    rw place (from_first (i + 1) k headers (headed_at i header rooms) (omega (arith, some)) (omega (arith, count, within))
    ∙ ap (headed (get_or headers k [])) (headed_other i (i + 1 + k) header rooms (λ e. absurd (omega (arith, e)))))

pub header_at : (place : ℕ) (headers rooms : List (List ℕ)) → place < length headers → place < length rooms →
    get_or (headed_from 0 headers rooms) place [] ≡ headed (get_or headers place []) (get_or rooms place [])
header_at place headers rooms some within =
    let same : 0 + place ≡ place = omega arith in
    subst (λ k. get_or (headed_from 0 headers rooms) k [] ≡ headed (get_or headers place []) (get_or rooms k [])) same
    (from_first 0 place headers rooms some (omega (arith, within)))

pub packet_behind : (it : DatagramParts) (room : List ℕ) (start : ℕ) → it.padding ≡ [] → start + length (datagram_header it.header false) ≡ length room →
    drop start (headed (datagram_header it.header false) room ++ it.payload) ≡ datagram_bytes it
packet_behind it room start none all =
    let header = datagram_header it.header false in
    let count : length room - length header ≡ start = omega (arith, all) in
    let long : length (take start room) ≡ start = length-take-le start room (omega (arith, all)) in
    rw (none, count) (ap (drop start) (append_assoc (take start room) header it.payload) ∙ drop_at (take start room) (header ++ it.payload) start long
    ∙ ap (λ (x : List ℕ). header ++ x) (sym (append-nil it.payload)))

-- what is held is an end
pub last_end : (bound : ℕ) (packets : List DatagramParts) → (before : List DatagramParts) × (packets ≡ before ++ last_within bound packets)
last_end bound [] = ([], refl)
last_end bound (x ∷ xs) = by (are_within bound (x ∷ xs)) (last_end bound xs)
  where
    by : (is : Bool) → (before : List DatagramParts) × (xs ≡ before ++ last_within bound xs) →
        (before : List DatagramParts) × (x ∷ xs ≡ before ++ (if is then x ∷ xs else last_within bound xs))
    by true behind = ([], refl)
    by false behind = (x ∷ behind.0, ap (λ (l : List DatagramParts). x ∷ l) behind.1)

pub last_is_within : (bound : ℕ) (packets : List DatagramParts) → are_within bound (last_within bound packets) ≡ true
last_is_within bound [] = let small : nat_le 0 bound ≡ true = grind (arith, nat_tests) in rw small refl
last_is_within bound (x ∷ xs) = by (are_within bound (x ∷ xs)) refl (last_is_within bound xs)
  where
    by : (is : Bool) → are_within bound (x ∷ xs) ≡ is → are_within bound (last_within bound xs) ≡ true → are_within bound (if is then x ∷ xs else last_within bound xs) ≡ true
    by true is behind = is
    by false is behind = behind

pub last_is_longest : (bound : ℕ) (before rest : List DatagramParts) → are_within bound rest ≡ true → length rest ≤ length (last_within bound (before ++ rest))
last_is_longest bound [] rest is = let same = ap length (last_kept bound rest is) in omega (arith, same)
last_is_longest bound (x ∷ before) rest is = by (are_within bound (x ∷ (before ++ rest))) (last_is_longest bound before rest is)
  where
    by : (all : Bool) → length rest ≤ length (last_within bound (before ++ rest)) → length rest ≤ length (if all then x ∷ (before ++ rest) else last_within bound (before ++ rest))
    by true behind = let both = length-append before rest in omega (arith, both)
    by false behind = behind

pub held_number : (number : ℕ) (packets : List DatagramParts) → IfSome (held_of number packets) (λ (it : DatagramParts). it.header.sequence ≡ number)
held_number number [] = tt
held_number number (x ∷ xs) = by (x.header.sequence == number) refl (held_number number xs)
  where
    by : (same : Bool) → (x.header.sequence == number) ≡ same → IfSome (held_of number xs) (λ (it : DatagramParts). it.header.sequence ≡ number) →
        IfSome (cond same (Some x) (held_of number xs)) (λ (it : DatagramParts). it.header.sequence ≡ number)
    by true e behind = eqb-true x.header.sequence number e
    by false e behind = behind
