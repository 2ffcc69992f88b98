-- Packets under bytes that were written over their buffer.
use Rattle.std.proofs.Common.{◌≡◌, ℕ, zero, suc, ◌+◌, ◌≤◌, List, [], ◌∷◌, ◌++◌, length, take, drop, refl, sym, ap, ◌∙◌, arith}
use Rattle.std.specs.List.{between}
use Rattle.std.proofs.lemmas.List.{length-take-le, take_all, take-take}
use Rattle.std.proofs.lemmas.Slice.{between_is}
use Rattle.h26x_packetizer.specs.Buffer.{packets_from, headrooms_from, last_end, ArePacketEnds, IsBuffer}
use Rattle.h26x_packetizer.specs.BufferLoan.{part_under, packets_under, headrooms_under}
use Rattle.h26x_packetizer.proofs.BufferLemmas.{start_le_last, between_long}

-- the first bytes are the first bytes of as many
front_under : (j : ℕ) (w bytes : List ℕ) → j ≤ length bytes → take j (w ++ drop (length w) bytes) ≡ take j (w ++ drop (length w) (take j bytes))
front_under j [] bytes le = let long = length-take-le j bytes le in sym (take_all j (take j bytes) (omega (arith, long)))
front_under zero (x ∷ w) bytes le = refl
front_under (suc j) (x ∷ w) [] le = absurd (omega (arith, le))
front_under (suc j) (x ∷ w) (b ∷ bytes) le = ap (λ (l : List ℕ). x ∷ l) (front_under j w bytes (omega (arith, le)))

-- so many bytes behind a place are those of the part there
middle_under : (i j : ℕ) (w bytes : List ℕ) → i ≤ j → j ≤ length bytes → drop i (take j (w ++ drop (length w) bytes)) ≡ part_under (drop i (take j bytes)) (drop i w)
middle_under zero j w bytes order le = front_under j w bytes le ∙ ap (λ k. take k (w ++ drop (length w) (take j bytes))) (sym (length-take-le j bytes le))
middle_under (suc i) zero w bytes order le = absurd (omega (arith, order))
middle_under (suc i) (suc j) w [] order le = absurd (omega (arith, le))
middle_under (suc i) (suc j) [] (b ∷ bytes) order le = sym (take_all (length (drop i (take j bytes))) (drop i (take j bytes)) (omega arith))
middle_under (suc i) (suc j) (x ∷ w) (b ∷ bytes) order le = middle_under i j w bytes (omega (arith, order)) (omega (arith, le))

-- packets under bytes that were written over all
packets_lent : (h s n : ℕ) (bytes w ends : List ℕ) → n ≡ length bytes → ArePacketEnds h s ends → last_end s ends ≤ n →
    packets_from h s (take n (w ++ drop (length w) bytes)) ends ≡ packets_under h s w (packets_from h s bytes ends)
packets_lent h s n bytes w [] is are le = refl
packets_lent h s n bytes w (e ∷ ends) is (here, are) le =
    let last = start_le_last h e ends are in
    let long = between_long (s + h) e bytes (omega (arith, last, le, is)) in
    let end : s + h + length (between (s + h) e bytes) ≡ e = omega (arith, long, here) in
    let first : between (s + h) e (take n (w ++ drop (length w) bytes)) ≡ part_under (between (s + h) e bytes) (drop (s + h) w) =
    between_is (take n (w ++ drop (length w) bytes)) (s + h) e ∙ ap (drop (s + h)) (take-take e n (w ++ drop (length w) bytes) (omega (arith, last, le)))
    ∙ middle_under (s + h) e w bytes here (omega (arith, last, le, is)) ∙ ap (λ (p : List ℕ). part_under p (drop (s + h) w)) (sym (between_is bytes (s + h) e)) in
    rw (first, end) (ap (λ (l : List (List ℕ)). part_under (between (s + h) e bytes) (drop (s + h) w) ∷ l) (packets_lent h e n bytes w ends is are le))

-- so are their headrooms
headrooms_lent : (h s n : ℕ) (bytes w ends : List ℕ) → n ≡ length bytes → ArePacketEnds h s ends → last_end s ends ≤ n →
    headrooms_from h s (take n (w ++ drop (length w) bytes)) ends ≡ headrooms_under h s w (packets_from h s bytes ends) (headrooms_from h s bytes ends)
headrooms_lent h s n bytes w [] is are le = refl
headrooms_lent h s n bytes w (e ∷ ends) is (here, are) le =
    let last = start_le_last h e ends are in
    let long = between_long (s + h) e bytes (omega (arith, last, le, is)) in
    let end : s + h + length (between (s + h) e bytes) ≡ e = omega (arith, long, here) in
    let first : between s (s + h) (take n (w ++ drop (length w) bytes)) ≡ part_under (between s (s + h) bytes) (drop s w) =
    between_is (take n (w ++ drop (length w) bytes)) s (s + h) ∙ ap (drop s) (take-take (s + h) n (w ++ drop (length w) bytes) (omega (arith, here, last, le)))
    ∙ middle_under s (s + h) w bytes (omega arith) (omega (arith, here, last, le, is)) ∙ ap (λ (p : List ℕ). part_under p (drop s w)) (sym (between_is bytes s (s + h))) in
    rw (first, end) (ap (λ (l : List (List ℕ)). part_under (between s (s + h) bytes) (drop s w) ∷ l) (headrooms_lent h e n bytes w ends is are le))

pub buffer_rooms_lent : (h n : ℕ) (bytes w ends : List ℕ) → n ≡ length bytes → IsBuffer h bytes ends →
    headrooms_from h 0 (take n (w ++ drop (length w) bytes)) ends ≡ headrooms_under h 0 w (packets_from h 0 bytes ends) (headrooms_from h 0 bytes ends)
buffer_rooms_lent h n bytes w ends is buffer = let all = buffer.to_the_end in headrooms_lent h 0 n bytes w ends is buffer.in_order (omega (arith, all, is))

pub buffer_lent : (h n : ℕ) (bytes w ends : List ℕ) → n ≡ length bytes → IsBuffer h bytes ends →
    packets_from h 0 (take n (w ++ drop (length w) bytes)) ends ≡ packets_under h 0 w (packets_from h 0 bytes ends)
buffer_lent h n bytes w ends is buffer = let all = buffer.to_the_end in packets_lent h 0 n bytes w ends is buffer.in_order (omega (arith, all, is))
