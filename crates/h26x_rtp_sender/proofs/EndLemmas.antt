-- Packets that lie in memory, each behind its headroom.
use Rattle.std.proofs.Common.{◌≡◌, ℕ, suc, ◌+◌, ◌-◌, ◌<◌, ◌≤◌, Bool, true, false, ◌&&◌, nat_eq, nat_le, List, [], ◌∷◌, ◌++◌, length, get_or, Ok, refl, sym, ap, ◌∙◌, arith}
use Rattle.std.proofs.lemmas.Bool.Decides.{nat_tests}
use Rattle.h26x_packetizer.specs.Buffer.{ArePacketEnds, last_end, packet_ends, packets_from}
use Rattle.h26x_core.specs.Sequence.{next_sequence_number}
use Rattle.h26x_rtp.specs.Datagram.{datagram_header}
use Rattle.h26x_rtp.specs.Memory.{overwritten}
use Rattle.h26x_rtp.specs.Writing.{IsHeaderWritten}
use Rattle.h26x_rtp_sender.specs.InMemory.{are_in_memory, headed_before}
use Rattle.h26x_rtp_sender.specs.Sent.{UnitParts, packet_header, packet_headers}

both : (p q : Bool) → (p && q) ≡ true → (p ≡ true) × (q ≡ true)
both true true is = (refl, refl)
both true false is = (refl, is)
both false true is = (is, refl)
both false false is = (is, is)

-- what the test says
pub in_order : (h start size : ℕ) (ends : List ℕ) → are_in_memory h start size ends ≡ true → ArePacketEnds h start ends
in_order h start size [] are = tt
in_order h start size (end ∷ ends) are =
    let is = both (nat_le (start + h) end) (are_in_memory h end size ends) are in
    (let le = is.0 in grind (arith, nat_tests, le), in_order h end size ends is.1)

pub ends_within : (h start size : ℕ) (ends : List ℕ) → are_in_memory h start size ends ≡ true → last_end start ends ≤ size
ends_within h start size [] are = grind (arith, nat_tests, are)
ends_within h start size (end ∷ ends) are =
    ends_within h end size ends (both (nat_le (start + h) end) (are_in_memory h end size ends) are).1

-- the first packet ends in memory
pub start_reached : (h start : ℕ) (ends : List ℕ) → ArePacketEnds h start ends → start ≤ last_end start ends
start_reached h start [] are = omega arith
start_reached h start (end ∷ ends) (here, more) = let le = start_reached h end ends more in omega (arith, le, here)

pub first_reached : (h start : ℕ) (ends : List ℕ) → ArePacketEnds h start ends → 0 < length ends →
    (start + h ≤ get_or ends 0 0) × (get_or ends 0 0 ≤ last_end start ends)
first_reached h start [] are some = absurd (omega arith)
first_reached h start (end ∷ ends) (here, more) some = (here, start_reached h end ends more)

-- those of a buffer
pub buffer_in_order : (h start : ℕ) (packets : List (List ℕ)) → ArePacketEnds h start (packet_ends h start packets)
buffer_in_order h start [] = tt
buffer_in_order h start (packet ∷ packets) = (omega arith, buffer_in_order h (start + h + length packet) packets)

pub packets_count : (h start : ℕ) (bytes ends : List ℕ) → length (packets_from h start bytes ends) ≡ length ends
packets_count h start bytes [] = refl
packets_count h start bytes (end ∷ ends) = ap suc (packets_count h end bytes ends)

-- the header of the first packet is written, and then those that are left
pub heads_left : (u : UnitParts) (sequence h start first : ℕ) (all memory new rest : List ℕ) (end : ℕ) (marker : Bool) →
    IsHeaderWritten (packet_header u sequence marker) false (start + h) memory new (Ok first) → marker ≡ nat_eq (length rest) 0 →
    headed_before h end rest (packet_headers u (next_sequence_number sequence) (packets_from h end all rest)) new
    ≡ headed_before h start (end ∷ rest) (packet_headers u sequence (packets_from h start all (end ∷ rest))) memory
heads_left u sequence h start first all memory new rest end marker (fits, place, within, written) last =
    let headers = packet_headers u (next_sequence_number sequence) (packets_from h end all rest) in
    let header = datagram_header (packet_header u sequence marker) false in
    let count : nat_eq (length (packets_from h end all rest)) 0 ≡ marker = ap (λ k. nat_eq k 0) (packets_count h end all rest) ∙ sym last in
    let begins : first ≡ start + h - length header = omega (arith, place) in
    ap (headed_before h end rest headers) (written ∙ ap (λ k. overwritten k header memory) begins)
    ∙ sym (ap (λ (m : Bool). headed_before h end rest headers (overwritten (start + h - length (datagram_header (packet_header u sequence m) false)) (datagram_header (packet_header u sequence m) false) memory)) count)
