-- The numbers that bits and pairs ask for, and the bits and pairs that ask for numbers.
use Rattle.std.proofs.Common.{◌≡◌, ℕ, zero, suc, ◌+◌, ◌-◌, ◌*◌, ◌/◌, ◌%◌, ◌^◌, ◌<◌, ◌≤◌, ◌⊎◌, inl, inr, Bool, true, false, List, [], ◌∷◌, ◌++◌, length, take, drop, get_or, refl, sym, ap, ◌∙◌, Ok, length-append, arith}
use Rattle.std.specs.Prelude.{slice_index, ◌==◌, if◌then◌else◌}
use Rattle.std.specs.List.{flat_map}
use Rattle.std.proofs.Math.Nat.{mul-add, mul_assoc, pow-suc}
use Rattle.std.proofs.lemmas.Bool.{cases_eq}
use Rattle.std.proofs.lemmas.Bool.Decides.{nat_tests}
use Rattle.std.proofs.lemmas.List.{drop-drop, length-drop, get_or-drop}
use Rattle.std.proofs.lemmas.Nat.{pow_pos, pow-add}
use Rattle.h26x_core.specs.Sequence.{next_sequence_number}
use Rattle.h26x_rtp.specs.declared.nack.NackPair.{NackPair}
use Rattle.h26x_rtp.specs.declared.nack.NackWritten.{NackWritten}
use Rattle.h26x_rtp.specs.Memory.{filled_from, overwritten}
use Rattle.h26x_rtp.specs.Nack.{bit_numbers, pair_numbers, pair_bytes, pairs_in, numbers_bits, bits_count, pair_of, behind_pair, nack_pairs, nack_count, nack_head, pairs_room, IsNackWritten}
use Rattle.h26x_rtp.proofs.MemoryLemmas.{filled_both, written_before, written_twice}

-- the lowest of bits that is set, or isn't
pub odd_bits : (n number bits : ℕ) → bit_numbers (suc n) number (1 + 2 * bits) ≡ number ∷ bit_numbers n (next_sequence_number number) bits
odd_bits n number bits =
    let odd : (1 + 2 * bits) % 2 ≡ 1 = omega arith in
    let half : (1 + 2 * bits) / 2 ≡ bits = omega arith in
    rw (odd, half) refl

even_bits : (n number bits : ℕ) → bit_numbers (suc n) number (2 * bits) ≡ bit_numbers n (next_sequence_number number) bits
even_bits n number bits =
    let even : (2 * bits) % 2 ≡ 0 = omega arith in
    let half : (2 * bits) / 2 ≡ bits = omega arith in
    rw (even, half) refl

-- the first of numbers is that of the lowest bit
bits_hit : (n number : ℕ) (numbers : List ℕ) → 0 < length numbers → slice_index numbers 0 ≡ number →
    numbers_bits (suc n) number numbers ≡ 1 + 2 * numbers_bits n (next_sequence_number number) (drop 1 numbers)
bits_hit n number [] some same = absurd (omega arith)
bits_hit n number (it ∷ numbers) some same = let t : (it == number) ≡ true = grind (arith, nat_tests, same) in rw t refl

count_hit : (n number : ℕ) (numbers : List ℕ) → 0 < length numbers → slice_index numbers 0 ≡ number →
    bits_count (suc n) number numbers ≡ 1 + bits_count n (next_sequence_number number) (drop 1 numbers)
count_hit n number [] some same = absurd (omega arith)
count_hit n number (it ∷ numbers) some same = let t : (it == number) ≡ true = grind (arith, nat_tests, same) in rw t refl

-- or isn't
no_bits : (n number : ℕ) → numbers_bits n number [] ≡ 0
no_bits zero number = refl
no_bits (suc n) number = refl

none_counted : (n number : ℕ) → bits_count n number [] ≡ 0
none_counted zero number = refl
none_counted (suc n) number = refl

bits_miss : (n number : ℕ) (numbers : List ℕ) → (length numbers ≡ 0) ⊎ (slice_index numbers 0 ≡ number → ⊥) →
    numbers_bits (suc n) number numbers ≡ 2 * numbers_bits n (next_sequence_number number) numbers
bits_miss n number [] other = let z = no_bits n (next_sequence_number number) in omega (arith, z)
bits_miss n number (it ∷ numbers) (inl none) = absurd (omega (arith, none))
bits_miss n number (it ∷ numbers) (inr other) = let t : (it == number) ≡ false = grind (arith, nat_tests, other) in rw t refl

count_miss : (n number : ℕ) (numbers : List ℕ) → (length numbers ≡ 0) ⊎ (slice_index numbers 0 ≡ number → ⊥) →
    bits_count (suc n) number numbers ≡ bits_count n (next_sequence_number number) numbers
count_miss n number [] other = sym (none_counted n (next_sequence_number number))
count_miss n number (it ∷ numbers) (inl none) = absurd (omega (arith, none))
count_miss n number (it ∷ numbers) (inr other) = let t : (it == number) ≡ false = grind (arith, nat_tests, other) in rw t refl

-- bits at a place, one place on
double : (place : ℕ) → 2 ^ (place + 1) ≡ 2 ^ place * 2
double place = pow-add 2 place 1

odd_product : (place x : ℕ) → 2 ^ place * (1 + 2 * x) ≡ 2 ^ place + 2 ^ (place + 1) * x
odd_product place x =
    let a = mul-add (2 ^ place) 1 (2 * x) in
    let b = mul_assoc (2 ^ place) 2 x in
    let c : 2 ^ (place + 1) * x ≡ 2 ^ place * 2 * x = ap (λ n. n * x) (double place) in
    omega (arith, a, b, c)

even_product : (place x : ℕ) → 2 ^ place * (2 * x) ≡ 2 ^ (place + 1) * x
even_product place x = sym (ap (λ n. n * x) (double place) ∙ mul_assoc (2 ^ place) 2 x)

pub below_more : (place following : ℕ) → following < 2 ^ place → following + 2 ^ place < 2 ^ (place + 1)
below_more place following h = let d = double place in omega (arith, h, d)

pub below_same : (place following : ℕ) → following < 2 ^ place → following < 2 ^ (place + 1)
below_same place following h = let d = double place in omega (arith, h, d)

-- what is left of the bits and the numbers behind a place, one on
pub bits_on : (place following number count all : ℕ) (numbers : List ℕ) → place < 16 → count < length numbers → get_or numbers count 0 ≡ number →
    following + 2 ^ place * numbers_bits (16 - place) number (drop count numbers) ≡ all →
    following + 2 ^ place + 2 ^ (place + 1) * numbers_bits (16 - (place + 1)) (next_sequence_number number) (drop (count + 1) numbers) ≡ all
bits_on place following number count all numbers low more same before =
    let n = 16 - (place + 1) in
    let k : 16 - place ≡ suc n = omega (arith, low) in
    let left = drop count numbers in
    let l = length-drop count numbers in
    let first : slice_index left 0 ≡ number = get_or-drop count numbers 0 0 ∙ (let z : count + 0 ≡ count = omega arith in ap (λ i. get_or numbers i 0) z) ∙ same in
    let x = numbers_bits n (next_sequence_number number) (drop (count + 1) numbers) in
    let bits : numbers_bits (16 - place) number left ≡ 1 + 2 * x =
    ap (λ i. numbers_bits i number left) k ∙ bits_hit n number left (omega (arith, l, more)) first
    ∙ ap (λ rest. 1 + 2 * numbers_bits n (next_sequence_number number) rest) (drop-drop 1 count numbers) in
    let e : 2 ^ place * numbers_bits (16 - place) number left ≡ 2 ^ place + 2 ^ (place + 1) * x = ap (λ b. 2 ^ place * b) bits ∙ odd_product place x in
    omega (arith, e, before)

missed : (count number : ℕ) (numbers : List ℕ) → (length numbers ≤ count) ⊎ (get_or numbers count 0 ≡ number → ⊥) →
    (length (drop count numbers) ≡ 0) ⊎ (slice_index (drop count numbers) 0 ≡ number → ⊥)
missed count number numbers (inl past) = let l = length-drop count numbers in inl (omega (arith, l, past))
missed count number numbers (inr other) =
    let z : count + 0 ≡ count = omega arith in
    let at : slice_index (drop count numbers) 0 ≡ get_or numbers count 0 = get_or-drop count numbers 0 0 ∙ ap (λ i. get_or numbers i 0) z in
    inr (λ same. other (sym at ∙ same))

pub bits_past : (place following number count all : ℕ) (numbers : List ℕ) → place < 16 → (length numbers ≤ count) ⊎ (get_or numbers count 0 ≡ number → ⊥) →
    following + 2 ^ place * numbers_bits (16 - place) number (drop count numbers) ≡ all →
    following + 2 ^ (place + 1) * numbers_bits (16 - (place + 1)) (next_sequence_number number) (drop count numbers) ≡ all
bits_past place following number count all numbers low other before =
    let n = 16 - (place + 1) in
    let k : 16 - place ≡ suc n = omega (arith, low) in
    let left = drop count numbers in
    let x = numbers_bits n (next_sequence_number number) left in
    let bits : numbers_bits (16 - place) number left ≡ 2 * x = ap (λ i. numbers_bits i number left) k ∙ bits_miss n number left (missed count number numbers other) in
    let e : 2 ^ place * numbers_bits (16 - place) number left ≡ 2 ^ (place + 1) * x = ap (λ b. 2 ^ place * b) bits ∙ even_product place x in
    omega (arith, e, before)

pub count_on : (place number count all : ℕ) (numbers : List ℕ) → place < 16 → count < length numbers → get_or numbers count 0 ≡ number →
    count + bits_count (16 - place) number (drop count numbers) ≡ all →
    count + 1 + bits_count (16 - (place + 1)) (next_sequence_number number) (drop (count + 1) numbers) ≡ all
count_on place number count all numbers low more same before =
    let n = 16 - (place + 1) in
    let k : 16 - place ≡ suc n = omega (arith, low) in
    let left = drop count numbers in
    let l = length-drop count numbers in
    let first : slice_index left 0 ≡ number = get_or-drop count numbers 0 0 ∙ (let z : count + 0 ≡ count = omega arith in ap (λ i. get_or numbers i 0) z) ∙ same in
    let bits : bits_count (16 - place) number left ≡ 1 + bits_count n (next_sequence_number number) (drop (count + 1) numbers) =
    ap (λ i. bits_count i number left) k ∙ count_hit n number left (omega (arith, l, more)) first
    ∙ ap (λ rest. 1 + bits_count n (next_sequence_number number) rest) (drop-drop 1 count numbers) in
    omega (arith, bits, before)

pub count_past : (place number count all : ℕ) (numbers : List ℕ) → place < 16 → (length numbers ≤ count) ⊎ (get_or numbers count 0 ≡ number → ⊥) →
    count + bits_count (16 - place) number (drop count numbers) ≡ all →
    count + bits_count (16 - (place + 1)) (next_sequence_number number) (drop count numbers) ≡ all
count_past place number count all numbers low other before =
    let n = 16 - (place + 1) in
    let k : 16 - place ≡ suc n = omega (arith, low) in
    let left = drop count numbers in
    let bits : bits_count (16 - place) number left ≡ bits_count n (next_sequence_number number) left =
    ap (λ i. bits_count i number left) k ∙ count_miss n number left (missed count number numbers other) in
    omega (arith, bits, before)

-- so many bits are below their power of two, and of no more numbers than there are
pub bits_below : (n number : ℕ) (numbers : List ℕ) → numbers_bits n number numbers < 2 ^ n
bits_below zero number numbers = omega arith
bits_below (suc n) number [] = pow_pos (suc n)
bits_below (suc n) number (it ∷ numbers) =
    let d : 2 ^ (suc n) ≡ 2 ^ n * 2 = pow-suc 2 n in
    elim (cases_eq it number) [
      | inl same ↦
          let b = bits_hit n number (it ∷ numbers) (omega arith) same in
          let more = bits_below n (next_sequence_number number) numbers in
          omega (arith, b, more, d)
      | inr other ↦
          let b = bits_miss n number (it ∷ numbers) (inr other) in
          let more = bits_below n (next_sequence_number number) (it ∷ numbers) in
          omega (arith, b, more, d)
    ]

pub count_within : (n number : ℕ) (numbers : List ℕ) → bits_count n number numbers ≤ length numbers
count_within zero number numbers = omega arith
count_within (suc n) number [] = omega arith
count_within (suc n) number (it ∷ numbers) = elim (cases_eq it number) [
  | inl same ↦
      let b = count_hit n number (it ∷ numbers) (omega arith) same in
      let more = count_within n (next_sequence_number number) numbers in
      omega (arith, b, more)
  | inr other ↦
      let b = count_miss n number (it ∷ numbers) (inr other) in
      let more = count_within n (next_sequence_number number) (it ∷ numbers) in
      omega (arith, b, more)
]

-- bits of numbers ask for them
zero_bits : (n number : ℕ) → bit_numbers n number 0 ≡ []
zero_bits zero number = refl
zero_bits (suc n) number = zero_bits n (next_sequence_number number)

pub bits_again : (n number : ℕ) (numbers : List ℕ) → bit_numbers n number (numbers_bits n number numbers) ≡ take (bits_count n number numbers) numbers
bits_again zero number numbers = refl
bits_again (suc n) number [] = zero_bits (suc n) number
bits_again (suc n) number (it ∷ numbers) =
    let next = next_sequence_number number in
    elim (cases_eq it number) [
      | inl same ↦
          let c : bits_count (suc n) number (it ∷ numbers) ≡ suc (bits_count n next numbers) = let h = count_hit n number (it ∷ numbers) (omega arith) same in omega (arith, h) in
          ap (bit_numbers (suc n) number) (bits_hit n number (it ∷ numbers) (omega arith) same)
          ∙ odd_bits n number (numbers_bits n next numbers)
          ∙ ap (λ l. number ∷ l) (bits_again n next numbers)
          ∙ ap (λ x. x ∷ take (bits_count n next numbers) numbers) (sym same)
          ∙ ap (λ k. take k (it ∷ numbers)) (sym c)
      | inr other ↦
          ap (bit_numbers (suc n) number) (bits_miss n number (it ∷ numbers) (inr other))
          ∙ even_bits n number (numbers_bits n next (it ∷ numbers))
          ∙ bits_again n next (it ∷ numbers)
          ∙ ap (λ k. take k (it ∷ numbers)) (sym (count_miss n number (it ∷ numbers) (inr other)))
    ]

-- the pair of the first number, and those of the others
pub pairs_next : (most less : ℕ) (pair : NackPair) (numbers behind : List ℕ) → most ≡ suc less → 0 < length numbers →
    pair ≡ pair_of (slice_index numbers 0) (drop 1 numbers) → behind ≡ behind_pair (slice_index numbers 0) (drop 1 numbers) →
    nack_pairs most numbers ≡ pair ∷ nack_pairs less behind
pairs_next most less pair [] behind is some first rest = absurd (omega arith)
pairs_next most less pair (it ∷ numbers) behind is some first rest = rw (is, first, rest) refl

pub count_next : (most less : ℕ) (numbers behind : List ℕ) → most ≡ suc less → 0 < length numbers →
    behind ≡ behind_pair (slice_index numbers 0) (drop 1 numbers) → nack_count most numbers + length behind ≡ nack_count less behind + length numbers
count_next most less [] behind is some rest = absurd (omega arith)
count_next most less (it ∷ numbers) behind is some rest =
    let k = bits_count 16 (next_sequence_number it) numbers in
    let n : nack_count most (it ∷ numbers) ≡ 1 + k + nack_count less behind = rw (is, rest) refl in
    let l : length behind ≡ length numbers - k = ap length rest ∙ length-drop k numbers in
    let w = count_within 16 (next_sequence_number it) numbers in
    omega (arith, n, l, w)

-- a list of none, or none of a list
pub no_pairs : (most : ℕ) (numbers : List ℕ) → (most ≡ 0) ⊎ (length numbers ≡ 0) → nack_pairs most numbers ≡ []
no_pairs zero numbers none = refl
no_pairs (suc n) [] none = refl
no_pairs (suc n) (it ∷ numbers) (inl none) = absurd (omega (arith, none))
no_pairs (suc n) (it ∷ numbers) (inr none) = absurd (omega (arith, none))

pub no_count : (most : ℕ) (numbers : List ℕ) → (most ≡ 0) ⊎ (length numbers ≡ 0) → nack_count most numbers ≡ 0
no_count zero numbers none = refl
no_count (suc n) [] none = refl
no_count (suc n) (it ∷ numbers) (inl none) = absurd (omega (arith, none))
no_count (suc n) (it ∷ numbers) (inr none) = absurd (omega (arith, none))

-- how many pairs and bytes these are
pub pairs_within : (most : ℕ) (numbers : List ℕ) → length (nack_pairs most numbers) ≤ most
pairs_within zero numbers = omega arith
pairs_within (suc n) [] = omega arith
pairs_within (suc n) (it ∷ numbers) = let more = pairs_within n (behind_pair it numbers) in omega (arith, more)

pub pairs_size : (pairs : List NackPair) → length (flat_map pair_bytes pairs) ≡ 4 * length pairs
pairs_size [] = refl
pairs_size (pair ∷ pairs) = let more = pairs_size pairs in omega (arith, more)

-- how many numbers pairs ask for
one_within : (set : Bool) (number : ℕ) → length (if set then number ∷ [] else []) ≤ 1
one_within true number = omega arith
one_within false number = omega arith

numbers_within : (n number bits : ℕ) → length (bit_numbers n number bits) ≤ n
numbers_within zero number bits = omega arith
numbers_within (suc n) number bits =
    let next = bit_numbers n (next_sequence_number number) (bits / 2) in
    let one = if bits % 2 == 1 then number ∷ [] else [] in
    let a = length-append one next in
    let b = one_within (bits % 2 == 1) number in
    let more = numbers_within n (next_sequence_number number) (bits / 2) in
    omega (arith, a, b, more)

pairs_ask : (pairs : List NackPair) → length (flat_map pair_numbers pairs) ≤ 17 * length pairs
pairs_ask [] = omega arith
pairs_ask (pair ∷ pairs) =
    let a = length-append (pair_numbers pair) (flat_map pair_numbers pairs) in
    let b = numbers_within 16 (next_sequence_number pair.first) pair.following in
    let more = pairs_ask pairs in
    omega (arith, a, b, more)

bytes_pairs : (bytes : List ℕ) → 4 * length (pairs_in bytes) ≤ length bytes
bytes_pairs [] = omega arith
bytes_pairs (a ∷ []) = omega arith
bytes_pairs (a ∷ b ∷ []) = omega arith
bytes_pairs (a ∷ b ∷ c ∷ []) = omega arith
bytes_pairs (a ∷ b ∷ c ∷ d ∷ bytes) = let more = bytes_pairs bytes in omega (arith, more)

-- numbers of pairs that are copied are few
pub copies_fit : (count : ℕ) (bytes : List ℕ) (pair : NackPair) (pairs left behind : List NackPair) → length bytes ≤ 262132 → pairs ≡ pairs_in bytes →
    left ≡ pair ∷ behind → count + length (flat_map pair_numbers left) ≡ length (flat_map pair_numbers pairs) → count + length (pair_numbers pair) < 2 ^ 63
copies_fit count bytes pair pairs left behind few is first counted =
    let a = ap (λ p. length (flat_map pair_numbers p)) first ∙ length-append (pair_numbers pair) (flat_map pair_numbers behind) in
    let b = ap (λ p. length (flat_map pair_numbers p)) is in
    let c = pairs_ask (pairs_in bytes) in
    let d = bytes_pairs bytes in
    omega (arith, few, counted, a, b, c, d)

-- a pair's numbers copied, and those of the pairs behind it
pub pairs_copied : (count end : ℕ) (pair : NackPair) (left behind : List NackPair) (numbers memory copied : List ℕ) → left ≡ pair ∷ behind →
    numbers ≡ pair_numbers pair → copied ≡ filled_from count numbers memory → end ≡ count + length numbers →
    filled_from end (flat_map pair_numbers behind) copied ≡ filled_from count (flat_map pair_numbers left) memory
pairs_copied count end pair left behind numbers memory copied first is done at =
    let rest = flat_map pair_numbers behind in
    ap (λ k. filled_from k rest copied) at ∙ ap (filled_from (count + length numbers) rest) done
    ∙ filled_both count numbers rest memory ∙ ap (λ some. filled_from count (some ++ rest) memory) is
    ∙ ap (λ pairs. filled_from count (flat_map pair_numbers pairs) memory) (sym first)

-- a pair written, and those behind it
pub behind_within : (numbers behind : List ℕ) → behind ≡ behind_pair (slice_index numbers 0) (drop 1 numbers) → length behind ≤ length numbers
behind_within numbers behind is =
    let k = bits_count 16 (next_sequence_number (slice_index numbers 0)) (drop 1 numbers) in
    let l : length behind ≡ length (drop 1 numbers) - k = ap length is ∙ length-drop k (drop 1 numbers) in
    let m = length-drop 1 numbers in
    omega (arith, l, m)

pub pair_put : (size end left : ℕ) (pair : NackPair) (rest behind bytes memory written : List ℕ) → left ≡ suc (left - 1) → 0 < length rest →
    pair ≡ pair_of (slice_index rest 0) (drop 1 rest) → behind ≡ behind_pair (slice_index rest 0) (drop 1 rest) → bytes ≡ pair_bytes pair →
    end ≡ size + length bytes → written ≡ overwritten size bytes memory → size + 4 * left ≤ length memory →
    overwritten end (flat_map pair_bytes (nack_pairs (left - 1) behind)) written ≡ overwritten size (flat_map pair_bytes (nack_pairs left rest)) memory
pair_put size end left pair rest behind bytes memory written less some first others is at done room =
    let pairs = nack_pairs (left - 1) behind in
    let more = flat_map pair_bytes pairs in
    let a = pairs_within (left - 1) behind in
    let b = pairs_size pairs in
    let l = length-append bytes more in
    let four = ap length is in
    written_twice size end bytes more memory written (overwritten end more written) done at refl (omega (arith, a, b, l, four, less, room))
    ∙ ap (λ bytes. overwritten size (bytes ++ more) memory) is
    ∙ ap (λ pairs. overwritten size (flat_map pair_bytes pairs) memory) (sym (pairs_next left (left - 1) pair rest behind less some first others))

-- a whole packet written
pub nack_done : (sender media : ℕ) (numbers old middle new head : List ℕ) (written : NackWritten) → 0 < length numbers → 16 ≤ length old →
    middle ≡ overwritten 12 (flat_map pair_bytes (nack_pairs (pairs_room (length old)) numbers)) old →
    written.size ≡ 12 + 4 * length (nack_pairs (pairs_room (length old)) numbers) → written.count ≡ nack_count (pairs_room (length old)) numbers →
    head ≡ nack_head sender media ((written.size - 12) / 4) → new ≡ overwritten 0 head middle → IsNackWritten sender media numbers old new (Ok written)
nack_done sender media [] old middle new head written some room pairs size count is put = absurd (omega arith)
nack_done sender media (it ∷ numbers) old middle new head written some room pairs size count is put =
    let made = nack_pairs (pairs_room (length old)) (it ∷ numbers) in
    let front = nack_head sender media (length made) in
    let bytes = flat_map pair_bytes made in
    let k : (written.size - 12) / 4 ≡ length made = omega (arith, size) in
    let h : head ≡ front = is ∙ ap (nack_head sender media) k in
    let s = pairs_size made in
    let l = length-append front bytes in
    let n : written.size ≡ length (front ++ bytes) = omega (arith, size, s, l) in
    let e : length front + length bytes ≡ written.size = omega (arith, size, s) in
    let w = written_before front bytes old middle new pairs (put ∙ ap (λ x. overwritten 0 x middle) h) (omega (arith, room)) in
    (room, n, count, w ∙ ap (λ k. (front ++ bytes) ++ drop k old) e)
