-- Places behind as many others as there are numbers have the same numbers.
use Rattle.std.proofs.Common.{◌≡◌, ℕ, ◌+◌, ◌-◌, ◌<◌, ◌≤◌, true, false, cond, List, [], ◌∷◌, map, refl, sym, ap, ◌∙◌, subst, arith}
use Rattle.std.specs.Prelude.{◌==◌, nat_lt, max}
use Rattle.std.proofs.lemmas.Bool.Decides.{nat_tests}
use Rattle.h26x_core.proofs.SequenceLemmas.{number_at}
use Rattle.h26x_reorder.specs.Reordering.{put, puts, in_order, AreWithinWindow, AreJumpsShort, IsReordered}
use Rattle.h26x_reorder.specs.ReorderBuffer.{packet_at, reordered, IsPutInOrder}
use Rattle.h26x_reorder.proofs.NumberLemmas.{from_first}

-- a place so many further on
abbrev shift : ℕ → ℕ
shift place = place + 65536

put_shift : (place : ℕ) (held : List ℕ) → put (shift place) (map shift held) ≡ map shift (put place held)
put_shift place [] = refl
put_shift place (p ∷ held) =
    let lt : nat_lt (place + 65536) (p + 65536) ≡ nat_lt place p = grind (arith, nat_tests) in
    let eq : (place + 65536 == p + 65536) ≡ (place == p) = grind (arith, nat_tests) in
    rw (lt, eq) (elim (nat_lt place p) as (λ b. cond b (shift place ∷ shift p ∷ map shift held) (cond (place == p) (shift p ∷ map shift held) (shift p ∷ put (shift place) (map shift held)))
    ≡ map shift (cond b (place ∷ p ∷ held) (cond (place == p) (p ∷ held) (p ∷ put place held)))) [
      | true ↦ refl
      | false ↦ elim (place == p) as (λ b. cond b (shift p ∷ map shift held) (shift p ∷ put (shift place) (map shift held)) ≡ map shift (cond b (p ∷ held) (p ∷ put place held))) [
        | true ↦ refl
        | false ↦ ap (λ (l : List ℕ). shift p ∷ l) (put_shift place held)
      ]
    ])

puts_shift : (places held : List ℕ) → puts (map shift places) (map shift held) ≡ map shift (puts places held)
puts_shift [] held = refl
puts_shift (place ∷ places) held = ap (puts (map shift places)) (put_shift place held) ∙ puts_shift places (put place held)

within_shift : (window newest : ℕ) (places : List ℕ) → AreWithinWindow window newest places → AreWithinWindow window (shift newest) (map shift places)
within_shift window newest [] within = tt
within_shift window newest (place ∷ places) within =
    let n : shift (max newest (place + 1)) ≡ max (shift newest) (shift place + 1) = omega arith in
    let h : newest < place + window + 1 = within.0 in
    (omega arith, subst (λ (m : ℕ). AreWithinWindow window m (map shift places)) n (within_shift window (max newest (place + 1)) places within.1))

jumps_shift : (window newest : ℕ) (places : List ℕ) → AreJumpsShort window newest places → AreJumpsShort window (shift newest) (map shift places)
jumps_shift window newest [] short = tt
jumps_shift window newest (place ∷ places) short =
    let n : shift (max newest (place + 1)) ≡ max (shift newest) (shift place + 1) = omega arith in
    let h : place + window ≤ newest + 16384 = short.0 in
    (omega arith, subst (λ (m : ℕ). AreJumpsShort window m (map shift places)) n (jumps_shift window (max newest (place + 1)) places short.1))

-- a packet by its place so many further on
module _ {A : Type 0} (sent : ℕ → A) (first : ℕ) where
  packet_behind : ℕ → ℕ × A
  packet_behind q = (number_at first q, sent (q - 65536))

  same_packet : (place : ℕ) → packet_at sent first place ≡ packet_behind (shift place)
  unfolding packet_behind
  same_packet place =
      let number : number_at first place ≡ number_at first (place + 65536) = omega arith in
      let index : place ≡ place + 65536 - 65536 = omega arith in
      ap (λ (n : ℕ). (n, sent place)) number ∙ ap (λ (i : ℕ). (number_at first (place + 65536), sent i)) index

  same_packets : (places : List ℕ) → map (packet_at sent first) places ≡ map packet_behind (map shift places)
  same_packets [] = refl
  same_packets (place ∷ places) =
      ap (λ (p : ℕ × A). p ∷ map (packet_at sent first) places) (same_packet place) ∙ ap (λ (l : List (ℕ × A)). packet_behind (shift place) ∷ l) (same_packets places)

  -- what is given out, wherever the places are
  anywhere : (window : ℕ) (places : List ℕ) → 0 < window → window ≤ 16384 → IsReordered window places →
      reordered window (map (packet_at sent first) places) ≡ map (packet_at sent first) (in_order places)
  unfolding packet_behind
  anywhere window [] some half is = refl
  anywhere window (q ∷ places) some half is =
      let n : shift (q + 1) ≡ shift q + 1 = omega arith in
      let shifted : IsReordered window (map shift (q ∷ places)) = (
        subst (λ (m : ℕ). AreWithinWindow window m (map shift places)) n (within_shift window (q + 1) places is.0),
        subst (λ (m : ℕ). AreJumpsShort window m (map shift places)) n (jumps_shift window (q + 1) places is.1),
      ) in
      ap (reordered window) (same_packets (q ∷ places))
      ∙ from_first first (λ p. sent (p - 65536)) window (shift q) (map shift places) some half (omega arith) shifted
      ∙ ap (map packet_behind) (puts_shift (q ∷ places) [])
      ∙ sym (same_packets (in_order (q ∷ places)))

pub put_in_order_all : {A : Type 0} → (window : ℕ) (packets : List (ℕ × A)) → 0 < window → window ≤ 16384 → IsPutInOrder window packets (reordered window packets)
put_in_order_all window packets some half = λ sent first places same is. ap (reordered window) same ∙ anywhere sent first window places some half is
