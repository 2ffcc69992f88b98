-- The numbers of packets that are held.
use Rattle.std.proofs.Common.{◌≡◌, ℕ, zero, suc, ◌+◌, ◌-◌, ◌<◌, ◌≤◌, ◌%◌, ◌^◌, ◌⊎◌, ◌==◌, Bool, true, false, cond, ◌&&◌, if◌then◌else◌, nat_le, List, [], ◌∷◌, ◌++◌, length, length-append, map, Option, Some, None, slice_index_or, refl, sym, ap, ◌∙◌, arith, append_assoc, append-nil, subst}
use borrow.Author.Tests.{eqb-true, eqb-false}
use Rattle.std.proofs.lemmas.Bool.Decides.{nat_tests}
use Rattle.std.proofs.lemmas.List.{length-map}
use Rattle.h26x_core.specs.Sequence.{next_sequence_number, distance_ahead}
use Rattle.h26x_rtp.specs.Datagram.{DatagramParts}
use Rattle.h26x_rtp_sender.specs.declared.sent.SentPacket.{SentPacket}
use Rattle.h26x_rtp_sender.specs.Sent.{UnitParts, sent_view, packet_of, numbered_packets}
use Rattle.h26x_rtp_sender.specs.History.{history_bytes, are_within, last_within, held_of, AreNumberedBefore, AreHeldBefore}
use Rattle.h26x_rtp_sender.proofs.HistoryLemmas.{last_again, last_twice, last_stays}

-- the packet of a number that is held
pub found : (next number back : ℕ) (items : List SentPacket) (d : SentPacket) → next < 65536 → number < 65536 → back ≡ distance_ahead number next → length items ≤ 32768 →
    AreNumberedBefore next (map sent_view items) → 0 < back → back ≤ length items →
    held_of number (map sent_view items) ≡ Some (sent_view (slice_index_or items (length items - back) d))
found next number back [] d n m is few numbered some within = absurd (omega (arith, some, within))
found next number back (x ∷ items) d n m is few (here, numbered) some within =
    by (x.sequence == number) refl (λ le. found next number back items d n m is (omega (arith, few)) numbered some le)
  where
    long : length (map sent_view items) ≡ length items
    long = length-map items sent_view

    by : (same : Bool) → (x.sequence == number) ≡ same →
        (back ≤ length items → held_of number (map sent_view items) ≡ Some (sent_view (slice_index_or items (length items - back) d))) →
        cond same (Some (sent_view x)) (held_of number (map sent_view items)) ≡ Some (sent_view (slice_index_or (x ∷ items) (length (x ∷ items) - back) d))
    by true e behind =
        let same = eqb-true x.sequence number e in
        let first : length (x ∷ items) - back ≡ 0 = omega (arith, same, here, long, is, n, m, few, within) in
        rw first refl
    by false e behind =
        let other = eqb-false x.sequence number e in
        let le : back ≤ length items = grind (arith, other, here, long, is, n, m, few, within, some) in
        let place : length (x ∷ items) - back ≡ suc (length items - back) = omega (arith, le) in
        behind le ∙ sym (rw place refl)

-- a number that isn't
pub missed : (next number back : ℕ) (items : List SentPacket) → next < 65536 → number < 65536 → back ≡ distance_ahead number next → length items ≤ 32768 →
    AreNumberedBefore next (map sent_view items) → (back ≡ 0) ⊎ (length items < back) →
    held_of number (map sent_view items) ≡ None
missed next number back [] n m is few numbered past = refl
missed next number back (x ∷ items) n m is few (here, numbered) past =
    let long : length (map sent_view items) ≡ length items = length-map items sent_view in
    let other : (x.sequence == number) ≡ false = grind (arith, nat_tests, here, long, is, n, m, few, past) in
    let behind : (back ≡ 0) ⊎ (length items < back) = grind (arith, past) in
    rw other (missed next number back items n m is (omega (arith, few)) numbered behind)

-- the last ones keep their numbers
last_numbered : (next bound : ℕ) (xs : List DatagramParts) → AreNumberedBefore next xs → AreNumberedBefore next (last_within bound xs)
last_numbered next bound [] are = tt
last_numbered next bound (x ∷ xs) are = by (are_within bound (x ∷ xs)) (last_numbered next bound xs are.1)
  where
    by : (is : Bool) → AreNumberedBefore next (last_within bound xs) → AreNumberedBefore next (if is then x ∷ xs else last_within bound xs)
    by true behind = are
    by false behind = behind

-- few are held
last_few : (bound : ℕ) (xs : List DatagramParts) → length (last_within bound xs) ≤ 32768
last_few bound [] = omega arith
last_few bound (x ∷ xs) = by (are_within bound (x ∷ xs)) refl (last_few bound xs)
  where
    few : (p q : Bool) → (p && q) ≡ true → q ≡ true
    few true q is = is
    few false true is = refl
    few false false is = is

    by : (is : Bool) → are_within bound (x ∷ xs) ≡ is → length (last_within bound xs) ≤ 32768 → length (if is then x ∷ xs else last_within bound xs) ≤ 32768
    by true is behind = let le = few (nat_le (history_bytes (x ∷ xs)) bound) (nat_le (length (x ∷ xs)) 32768) is in grind (arith, nat_tests, le)
    by false is behind = behind

pub held_few : (bound : ℕ) (xs : List DatagramParts) → last_within bound xs ≡ xs → length xs ≤ 32768
held_few bound xs all = subst (λ (l : List DatagramParts). length l ≤ 32768) all (last_few bound xs)

-- one packet more
one_numbered : (next : ℕ) (xs : List DatagramParts) (it : DatagramParts) → next < 65536 → length xs ≤ 32768 → it.header.sequence ≡ next →
    AreNumberedBefore next xs → AreNumberedBefore (next_sequence_number next) (xs ++ it ∷ [])
one_numbered next [] it n few is are = (omega (arith, is, n), tt)
one_numbered next (x ∷ xs) it n few is (here, are) =
    let long = length-append xs (it ∷ []) in
    (omega (arith, long, here, n, few), one_numbered next xs it n (omega (arith, few)) is are)

-- those of an access unit more
pub unit_held : (u : UnitParts) (bound next : ℕ) (payloads : List (List ℕ)) (xs : List DatagramParts) → next < 65536 → AreHeldBefore next bound xs →
    AreHeldBefore ((next + length payloads) % 65536) bound (last_within bound (xs ++ numbered_packets u next payloads))
unit_held u bound next [] xs n held =
    let same : (next + 0) % 65536 ≡ next = omega (arith, n) in
    let all : last_within bound (xs ++ []) ≡ xs = ap (last_within bound) (append-nil xs) ∙ held.all in
    rw (same, all) held
unit_held u bound next (payload ∷ payloads) xs n held =
    let it = packet_of u next (length payloads == 0) payload in
    let after = next_sequence_number next in
    let rest = numbered_packets u after payloads in
    let one = last_within bound (xs ++ it ∷ []) in
    let numbered = last_numbered after bound (xs ++ it ∷ []) (one_numbered next xs it n (held_few bound xs held.all) refl held.numbered) in
    let here : AreHeldBefore after bound one = record { numbered = numbered; all = last_twice bound (xs ++ it ∷ []) } in
    let less : after < 65536 = omega arith in
    let both : last_within bound (one ++ rest) ≡ last_within bound (xs ++ it ∷ rest) =
    last_again bound (xs ++ it ∷ []) rest ∙ ap (last_within bound) (append_assoc xs (it ∷ []) rest) in
    let number : (after + length payloads) % 65536 ≡ (next + length (payload ∷ payloads)) % 65536 = omega arith in
    subst (λ (l : List DatagramParts). AreHeldBefore ((next + length (payload ∷ payloads)) % 65536) bound l) both
    (subst (λ k. AreHeldBefore k bound (last_within bound (one ++ rest))) number (unit_held u bound after payloads one less here))
