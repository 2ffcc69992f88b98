-- Packets that stand one behind the other.
use Rattle.std.proofs.Common.{rules, ◌≡◌, ℕ, zero, suc, ◌+◌, ◌-◌, ◌<◌, ◌≤◌, List, [], ◌∷◌, ◌++◌, refl, sym, ap, subst, ◌∙◌, ⊎_elim, arith, get_or, take, drop, drop-cons, set, length, length-append, append_assoc, add-one}
use Rattle.std.proofs.Math.Seq.{take-suc, take-append_seam, set-append_seam}
use Rattle.std.proofs.lemmas.Bool.{cases_lt}
use Rattle.std.proofs.lemmas.List.{append-nil, drop-drop, drop_all, drop_at, length-drop, length-take-le, take-append-drop, take_all}
use Rattle.std.proofs.lemmas.List.Folds.{concat-append}
use Rattle.std.specs.List.{concat}
use Rattle.h26x_packetizer.specs.Buffer.{packet_ends, last_end, packets_from, HoldPackets}
use Rattle.h26x_codes.specs.Copies.{with_front, end_offsets, Fits, AreMost}

-- one packet more
pub one_more : (packets : List (List ℕ)) (n : ℕ) → n < length packets → concat (take (n + 1) packets) ≡ concat (take n packets) ++ get_or packets n []
one_more packets n within =
    rw add-one (ap concat (take-suc packets n [] within) ∙ concat-append (take n packets) (get_or packets n [] ∷ [])
    ∙ ap (λ (x : List ℕ). concat (take n packets) ++ x) (append-nil (get_or packets n [])))

-- the ends of packets and of those behind them
ends-append : (place : ℕ) (xs ys : List (List ℕ)) → end_offsets place (xs ++ ys) ≡ end_offsets place xs ++ end_offsets (place + length (concat xs)) ys
ends-append place [] ys = ap (λ p. end_offsets p ys) (omega arith)
ends-append place (x ∷ xs) ys =
    let lengths = length-append x (concat xs) in
    ap (λ (r : List ℕ). (place + length x) ∷ r)
    (ends-append (place + length x) xs ys ∙ ap (λ p. end_offsets (place + length x) xs ++ end_offsets p ys) (omega (arith, lengths)))

-- one packet's end more
end_more : (packets : List (List ℕ)) (n : ℕ) → n < length packets →
    end_offsets 0 (take (n + 1) packets) ≡ end_offsets 0 (take n packets) ++ length (concat (take (n + 1) packets)) ∷ []
end_more packets n within =
    let packet = get_or packets n [] in
    let lengths = ap length (one_more packets n within) ∙ length-append (concat (take n packets)) packet in
    ap (λ k. end_offsets 0 (take k packets)) (add-one n) ∙ ap (end_offsets 0) (take-suc packets n [] within) ∙ ends-append 0 (take n packets) (packet ∷ [])
    ∙ ap (λ e. end_offsets 0 (take n packets) ++ e ∷ []) (omega (arith, lengths))

-- there are as many ends as packets
pub length-ends : (place : ℕ) (packets : List (List ℕ)) → length (end_offsets place packets) ≡ length packets
length-ends place [] = refl
length-ends place (packet ∷ packets) = ap suc (length-ends (place + length packet) packets)

-- more packets are no fewer bytes
longer : (m n : ℕ) (packets : List (List ℕ)) → m ≤ n → length (concat (take m packets)) ≤ length (concat (take n packets))
longer zero n packets fewer = omega arith
longer (suc m) zero packets fewer = absurd (omega arith)
longer (suc m) (suc n) [] fewer = omega arith
longer (suc m) (suc n) (packet ∷ packets) fewer =
    let behind = longer m n packets (omega arith) in
    let front = length-append packet (concat (take m packets)) in
    let all = length-append packet (concat (take n packets)) in
    omega (arith, behind, front, all)

-- where the next packet doesn't fit, no more do
pub are_most : (packets : List (List ℕ)) (bytes ends count : ℕ) → Fits packets bytes ends count →
    (count < length packets → count < ends → bytes < length (concat (take (count + 1) packets))) → AreMost packets bytes ends count
are_most packets bytes ends count fits full = record {
  fits = fits;
  most = λ more others. ⊎_elim
      (λ (beyond : count < more).
      let those = others.there in
      let their_ends = others.ends_fit in
      let their_bytes = others.fit in
      let over = full (omega (arith, those)) (omega (arith, their_ends)) in
      let longer_ones = longer (count + 1) more packets (omega arith) in
      absurd (omega (arith, over, longer_ones, their_bytes)))
      (λ h. h)
      (cases_lt count more);
}

-- a number written behind those at the front of a buffer
number_behind : (front room : List ℕ) (n x : ℕ) → length front ≡ n → n < length room → set (front ++ drop n room) n x ≡ (front ++ x ∷ []) ++ drop (n + 1) room
number_behind front room n x same within =
    let rest = drop (suc n) room in
    rw add-one (ap (λ (r : List ℕ). set (front ++ r) n x) (drop-cons room n 0 within) ∙ ap (λ k. set (front ++ get_or room n 0 ∷ rest) k x) (sym same)
    ∙ set-append_seam front (get_or room n 0) rest x ∙ simp append_assoc)

-- a packet's end written behind those of the packets before it
pub end_behind : (packets : List (List ℕ)) (n end : ℕ) (room now : List ℕ) → n < length packets → n < length room →
    now ≡ end_offsets 0 (take n packets) ++ drop n room → end ≡ length (concat (take (n + 1) packets)) →
    set now n end ≡ end_offsets 0 (take (n + 1) packets) ++ drop (n + 1) room
end_behind packets n end room now within there holds is_end =
    let front = end_offsets 0 (take n packets) in
    ap (λ (x : List ℕ). set x n end) holds
    ∙ number_behind front room n end (length-ends 0 (take n packets) ∙ length-take-le n packets (omega arith)) there
    ∙ ap (λ (x : List ℕ). x ++ drop (n + 1) room) (ap (λ e. front ++ e ∷ []) is_end ∙ sym (end_more packets n within))

-- where there is room for a front, this is a copy of it
pub copied_there : (front room now : List ℕ) → length front ≤ length room → now ≡ front ++ drop (length front) room → now ≡ with_front front room
copied_there front room now fits holds = search rules

-- the ends of the first packets, copied
pub ends_copied : (packets : List (List ℕ)) (n : ℕ) (room now : List ℕ) → n ≤ length packets → n ≤ length room →
    now ≡ end_offsets 0 (take n packets) ++ drop n room → now ≡ with_front (end_offsets 0 (take n packets)) room
ends_copied packets n room now within fits holds =
    let front = end_offsets 0 (take n packets) in
    let same : length front ≡ n = length-ends 0 (take n packets) ∙ length-take-le n packets within in
    copied_there front room now (omega (arith, same, fits)) (holds ∙ ap (λ k. front ++ drop k room) (sym same))

-- packets without headroom end where they do one behind the other
same_ends : (place : ℕ) (packets : List (List ℕ)) → packet_ends 0 place packets ≡ end_offsets place packets
same_ends place [] = refl
same_ends place (packet ∷ packets) =
    let here : place + 0 ≡ place = omega arith in
    ap (λ p. (p + length packet) ∷ packet_ends 0 (p + length packet) packets) here ∙ ap (λ (r : List ℕ). (place + length packet) ∷ r) (same_ends (place + length packet) packets)

pub ends_without_headroom : (headroom : ℕ) (packets : List (List ℕ)) (ends : List ℕ) → headroom ≡ 0 → ends ≡ packet_ends headroom 0 packets → ends ≡ end_offsets 0 packets
ends_without_headroom headroom packets ends none are = are ∙ ap (λ h. packet_ends h 0 packets) none ∙ same_ends 0 packets

-- bytes that hold packets without headroom from a place on are these joined
joined_behind : (place : ℕ) (bytes : List ℕ) (packets : List (List ℕ)) → packets_from 0 place bytes (packet_ends 0 place packets) ≡ packets →
    last_end place (packet_ends 0 place packets) ≡ length bytes → drop place bytes ≡ concat packets
joined_behind place bytes [] there all = drop_all place bytes (omega (arith, all))
joined_behind place bytes (packet ∷ packets) there all =
    let here : place + 0 ≡ place = omega arith in
    let end = place + 0 + length packet in
    let first : take (end - (place + 0)) (drop (place + 0) bytes) ≡ packet = ap (λ (l : List (List ℕ)). get_or l 0 []) there in
    let others : packets_from 0 end bytes (packet_ends 0 end packets) ≡ packets = ap (λ (l : List (List ℕ)). drop 1 l) there in
    let rest : drop (end - (place + 0)) (drop (place + 0) bytes) ≡ concat packets =
    drop-drop (end - (place + 0)) (place + 0) bytes ∙ ap (λ k. drop k bytes) (omega (arith, here)) ∙ joined_behind end bytes packets others all in
    ap (λ k. drop k bytes) (sym here) ∙ sym (take-append-drop (end - (place + 0)) (drop (place + 0) bytes))
    ∙ ap (λ (x : List ℕ). x ++ drop (end - (place + 0)) (drop (place + 0) bytes)) first ∙ ap (λ (x : List ℕ). packet ++ x) rest

pub bytes_without_headroom : (headroom : ℕ) (packets : List (List ℕ)) (bytes : List ℕ) → headroom ≡ 0 → HoldPackets headroom packets bytes → bytes ≡ concat packets
bytes_without_headroom headroom packets bytes none hold =
    let held : HoldPackets 0 packets bytes = subst (λ h. HoldPackets h packets bytes) none hold in
    joined_behind 0 bytes packets held.there held.to_the_end

-- where a packet ends
pub end_at : (place : ℕ) (packets : List (List ℕ)) (n : ℕ) → n < length packets → get_or (end_offsets place packets) n 0 ≡ place + length (concat (take (suc n) packets))
end_at place [] n within = absurd (omega arith)
end_at place (packet ∷ packets) zero within = let long = length-append packet [] in omega (arith, long)
end_at place (packet ∷ packets) (suc n) within =
    let long = length-append packet (concat (take (suc n) packets)) in
    let behind = end_at (place + length packet) packets n (omega arith) in
    omega (arith, long, behind)

-- where those from a first one on end
ends_from : (packets : List (List ℕ)) (first : ℕ) → first ≤ length packets → drop first (end_offsets 0 packets) ≡ end_offsets (length (concat (take first packets))) (drop first packets)
ends_from packets first le =
    let before = take first packets in
    let count : length (end_offsets 0 before) ≡ first = length-ends 0 before ∙ length-take-le first packets le in
    let none : 0 + length (concat before) ≡ length (concat before) = omega arith in
    ap (λ (l : List (List ℕ)). drop first (end_offsets 0 l)) (sym (take-append-drop first packets)) ∙ ap (drop first) (ends-append 0 before (drop first packets))
    ∙ drop_at (end_offsets 0 before) (end_offsets (0 + length (concat before)) (drop first packets)) first count ∙ ap (λ k. end_offsets k (drop first packets)) none

pub end_from : (packets : List (List ℕ)) (ends : List ℕ) (first n : ℕ) → ends ≡ end_offsets 0 packets → first ≤ length packets → n < length (drop first packets) →
    get_or (take (length ends - first) (drop first ends)) n 0 ≡ length (concat (take first packets)) + length (concat (take (n + 1) (drop first packets)))
end_from packets ends first n are le within =
    let long = length-drop first ends in
    ap (λ (l : List ℕ). get_or l n 0) (take_all (length ends - first) (drop first ends) (omega (arith, long)) ∙ ap (drop first) are ∙ ends_from packets first le)
    ∙ end_at (length (concat (take first packets))) (drop first packets) n within ∙ ap (λ k. length (concat (take first packets)) + length (concat (take k (drop first packets)))) (sym (add-one n))

-- the first packets stand before the others
split_at : (packets : List (List ℕ)) (n : ℕ) → concat packets ≡ concat (take n packets) ++ concat (drop n packets)
split_at packets n = ap concat (sym (take-append-drop n packets)) ∙ concat-append (take n packets) (drop n packets)

pub bytes_behind : (packets : List (List ℕ)) (n : ℕ) → drop (length (concat (take n packets))) (concat packets) ≡ concat (drop n packets)
bytes_behind packets n = ap (drop (length (concat (take n packets)))) (split_at packets n) ∙ drop_at (concat (take n packets)) (concat (drop n packets)) (length (concat (take n packets))) refl

pub bytes_before : (packets : List (List ℕ)) (n : ℕ) → take (length (concat (take n packets))) (concat packets) ≡ concat (take n packets)
bytes_before packets n = ap (take (length (concat (take n packets)))) (split_at packets n) ∙ take-append_seam (concat (take n packets)) (concat (drop n packets))

pub no_longer : (packets : List (List ℕ)) (n : ℕ) → length (concat (take n packets)) ≤ length (concat packets)
no_longer packets n = let long = ap length (split_at packets n) ∙ length-append (concat (take n packets)) (concat (drop n packets)) in omega (arith, long)
