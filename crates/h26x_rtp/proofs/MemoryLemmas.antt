-- Bytes written one behind the other.
use Rattle.std.proofs.Common.{◌≡◌, ℕ, suc, ◌+◌, ◌-◌, ◌<◌, ◌≤◌, inl, inr, List, [], ◌∷◌, ◌++◌, length, take, drop, set, refl, sym, ap, ◌∙◌, length-append, append_assoc, arith}
use Rattle.std.proofs.lemmas.Bool.{cases_lt}
use Rattle.std.proofs.lemmas.List.{take_at, drop_at, length-drop, drop-drop, length-take-le, take-append-drop, append-nil, take_all, drop_all, take_more_set, length-set, drop-set-lt}
use Rattle.h26x_rtp.specs.Memory.{filled_from, overwritten}

-- memory that was written to is as long as it was
pub length-overwritten : (place : ℕ) (bytes memory : List ℕ) → place + length bytes ≤ length memory → length (overwritten place bytes memory) ≡ length memory
length-overwritten place bytes memory room =
    let a = length-append (take place memory) (bytes ++ drop (place + length bytes) memory) in
    let b = length-append bytes (drop (place + length bytes) memory) in
    let c = length-take-le place memory (omega arith) in
    let d = length-drop (place + length bytes) memory in
    omega (arith, a, b, c, d)

-- bytes written behind others are both written at the place of the first
pub overwritten-overwritten : (place : ℕ) (first second memory : List ℕ) → place + length first + length second ≤ length memory →
    overwritten (place + length first) second (overwritten place first memory) ≡ overwritten place (first ++ second) memory
overwritten-overwritten place first second memory room =
    let front = take place memory in
    let rest = drop (place + length first) memory in
    let f : length front ≡ place = length-take-le place memory (omega arith) in
    let both : front ++ (first ++ rest) ≡ (front ++ first) ++ rest = sym (append_assoc front first rest) in
    let l : length (front ++ first) ≡ place + length first = length-append front first ∙ ap (λ n. n + length first) f in
    let taken : take (place + length first) (front ++ (first ++ rest)) ≡ front ++ first =
    ap (take (place + length first)) both ∙ take_at (front ++ first) rest (place + length first) l in
    let d : drop (place + length first + length second) (front ++ (first ++ rest)) ≡ drop (length second) rest =
    sym (drop-drop (length second) (place + length first) (front ++ (first ++ rest)))
    ∙ ap (λ x. drop (length second) (drop (place + length first) x)) both
    ∙ ap (drop (length second)) (drop_at (front ++ first) rest (place + length first) l) in
    let e : drop (length second) rest ≡ drop (place + length first + length second) memory = drop-drop (length second) (place + length first) memory in
    let n : place + length first + length second ≡ place + length (first ++ second) = let h = length-append first second in omega (arith, h) in
    let g : drop (place + length first + length second) memory ≡ drop (place + length (first ++ second)) memory = ap (λ k. drop k memory) n in
    ap (λ x. x ++ (second ++ drop (place + length first + length second) (front ++ (first ++ rest)))) taken
    ∙ ap (λ x. (front ++ first) ++ (second ++ x)) (d ∙ e ∙ g)
    ∙ append_assoc front first (second ++ drop (place + length (first ++ second)) memory)
    ∙ ap (λ x. front ++ x) (sym (append_assoc first second (drop (place + length (first ++ second)) memory)))

-- two writes, one behind the other
pub written_twice : (place next : ℕ) (first second memory middle last : List ℕ) → middle ≡ overwritten place first memory →
    next ≡ place + length first → last ≡ overwritten next second middle → place + length (first ++ second) ≤ length memory →
    last ≡ overwritten place (first ++ second) memory
written_twice place next first second memory middle last a n b room =
    let l = length-append first second in
    b ∙ ap (λ k. overwritten k second middle) n ∙ ap (λ m. overwritten (place + length first) second m) a
    ∙ overwritten-overwritten place first second memory (omega (arith, l, room))

-- three writes
pub written_thrice : (place next far : ℕ) (first second third memory middle later last : List ℕ) → middle ≡ overwritten place first memory →
    next ≡ place + length first → later ≡ overwritten next second middle → far ≡ next + length second → last ≡ overwritten far third later →
    place + length (first ++ (second ++ third)) ≤ length memory → last ≡ overwritten place (first ++ (second ++ third)) memory
written_thrice place next far first second third memory middle later last a n b m c room =
    let l = length-append first (second ++ third) in
    let k = length-append second third in
    let long : length (overwritten place first memory) ≡ length memory = length-overwritten place first memory (omega (arith, l, room)) in
    let same : length middle ≡ length memory = ap length a ∙ long in
    let both = written_twice next far second third middle later last b m c (omega (arith, l, k, room, n, same)) in
    written_twice place next first (second ++ third) memory middle last a n both room

-- nothing written leaves memory
pub overwritten_none : (place : ℕ) (memory : List ℕ) → overwritten place [] memory ≡ memory
overwritten_none place memory = let n : place + 0 ≡ place = omega arith in rw n (take-append-drop place memory)

-- bytes written before others
pub written_before : (first second memory middle last : List ℕ) → middle ≡ overwritten (length first) second memory → last ≡ overwritten 0 first middle →
    length first ≤ length memory → last ≡ (first ++ second) ++ drop (length first + length second) memory
written_before first second memory middle last a b room =
    let n = length first in
    let rest = drop (n + length second) memory in
    let z : 0 + n ≡ n = omega arith in
    let d : drop n middle ≡ second ++ rest = ap (drop n) a ∙ drop_at (take n memory) (second ++ rest) n (length-take-le n memory room) in
    b ∙ ap (λ k. first ++ drop k middle) z ∙ ap (λ x. first ++ x) d ∙ sym (append_assoc first second rest)

-- no numbers leave memory, and so do those that have no place in it
pub filled_none : (place : ℕ) (memory : List ℕ) → filled_from place [] memory ≡ memory
filled_none place memory =
    let t : take {A = ℕ} (length memory - place) [] ≡ [] = take_all (length memory - place) [] (omega arith) in
    let n : place + 0 ≡ place = omega arith in
    rw (t, n) (take-append-drop place memory)

pub filled_full : (place : ℕ) (numbers memory : List ℕ) → length memory ≤ place → filled_from place numbers memory ≡ memory
filled_full place numbers memory h =
    let a = take_all place memory h in
    let z : length memory - place ≡ 0 = omega (arith, h) in
    let d = drop_all (place + length numbers) memory (omega (arith, h)) in
    rw (a, z, d) (append-nil memory)

-- the first of numbers, and those behind it
filled_more : (place number : ℕ) (numbers memory : List ℕ) → place < length memory →
    filled_from place (number ∷ numbers) memory ≡ filled_from (place + 1) numbers (set memory place number)
filled_more place number numbers memory h =
    let k = length memory - (place + 1) in
    let end = place + 1 + length numbers in
    let u : length memory - place ≡ suc k = omega (arith, h) in
    let e : place + suc (length numbers) ≡ end = omega arith in
    let whole = take place memory ++ (number ∷ (take k numbers ++ drop end memory)) in
    let before : filled_from place (number ∷ numbers) memory ≡ whole = rw (u, e) refl in
    let a = take_more_set memory place number h in
    let b = length-set memory place number in
    let c = drop-set-lt end memory place number (omega arith) in
    let after : filled_from (place + 1) numbers (set memory place number) ≡ whole =
    rw (a, b, c) (append_assoc (take place memory) (number ∷ []) (take k numbers ++ drop end memory)) in
    before ∙ sym after

-- a number written where its place is in memory
pub filled_one : (place number : ℕ) (memory : List ℕ) → place < length memory → set memory place number ≡ filled_from place (number ∷ []) memory
filled_one place number memory h = sym (filled_more place number [] memory h ∙ filled_none (place + 1) (set memory place number))

-- numbers written behind others
pub filled_both : (place : ℕ) (first second memory : List ℕ) →
    filled_from (place + length first) second (filled_from place first memory) ≡ filled_from place (first ++ second) memory
filled_both place [] second memory = let n : place + 0 ≡ place = omega arith in
    ap (λ k. filled_from k second (filled_from place [] memory)) n ∙ ap (filled_from place second) (filled_none place memory)
filled_both place (x ∷ first) second memory = elim (cases_lt place (length memory)) [
  | inl h ↦
      let n : place + suc (length first) ≡ place + 1 + length first = omega arith in
      let middle = set memory place x in
      ap (λ k. filled_from k second (filled_from place (x ∷ first) memory)) n
      ∙ ap (filled_from (place + 1 + length first) second) (filled_more place x first memory h)
      ∙ filled_both (place + 1) first second middle
      ∙ sym (filled_more place x (first ++ second) memory h)
  | inr h ↦
      let end = place + suc (length first) in
      ap (filled_from end second) (filled_full place (x ∷ first) memory h)
      ∙ filled_full end second memory (omega (arith, h))
      ∙ sym (filled_full place (x ∷ (first ++ second)) memory h)
]
