-- Headers written before the packets of an access unit.
use Rattle.std.proofs.Common.{◌≡◌, ℕ, zero, suc, ◌+◌, ◌-◌, ◌<◌, ◌≤◌, ◌==◌, nat_eq, Bool, false, List, [], ◌∷◌, length, length-drop, drop, get_or, refl, sym, ap, ◌∙◌, arith}
use Rattle.std.proofs.lemmas.Bool.Decides.{nat_tests}
use Rattle.std.proofs.lemmas.List.{drop_more}
use Rattle.h26x_core.specs.Sequence.{next_sequence_number}
use Rattle.h26x_packetizer.specs.Buffer.{headed_at}
use Rattle.h26x_rtp.specs.Datagram.{datagram_header}
use Rattle.h26x_rtp_sender.specs.Sent.{UnitParts, packet_header, packet_headers}
use Rattle.h26x_rtp_sender.specs.Sending.{headed_from}

-- the header at a place, and those behind it
pub heads_step : (u : UnitParts) (sequence place : ℕ) (payloads : List (List ℕ)) (rooms : List (List ℕ)) → place < length payloads →
    headed_from place (packet_headers u sequence (drop place payloads)) rooms
    ≡ headed_from (place + 1) (packet_headers u (next_sequence_number sequence) (drop (place + 1) payloads))
    (headed_at place (datagram_header (packet_header u sequence (place + 1 == length payloads)) false) rooms)
heads_step u sequence place payloads rooms within =
    let rest = drop (place + 1) payloads in
    let long : length rest ≡ length payloads - (place + 1) = length-drop (place + 1) payloads in
    let last : nat_eq (length rest) 0 ≡ (place + 1 == length payloads) = grind (arith, nat_tests, long, within) in
    ap (λ (l : List (List ℕ)). headed_from place (packet_headers u sequence l) rooms) (drop_more payloads place [] within)
    ∙ ap (λ (m : Bool). headed_from (place + 1) (packet_headers u (next_sequence_number sequence) rest) (headed_at place (datagram_header (packet_header u sequence m) false) rooms)) last
