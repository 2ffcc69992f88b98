-- What is written of a generic NACK is read, and asks for its numbers.
use Rattle.std.proofs.Common.{◌≡◌, ℕ, zero, suc, ◌+◌, ◌*◌, ◌^◌, ◌<◌, ◌≤◌, true, List, [], ◌∷◌, ◌++◌, length, take, drop, Some, Ok, refl, sym, ap, ◌∙◌, length-append, arith}
use Rattle.std.specs.Prelude.{slice_index, ◌==◌, nat_le}
use Rattle.std.specs.List.{flat_map, AllByRecursion}
use Rattle.std.proofs.Math.Seq.{take-add}
use Rattle.std.proofs.lemmas.Bool.Decides.{nat_tests}
use Rattle.std.proofs.lemmas.List.{length-drop, take_at}
use Rattle.h26x_core.specs.Sequence.{next_sequence_number}
use Rattle.h26x_rtp.specs.declared.nack.NackPair.{NackPair}
use Rattle.h26x_rtp.specs.declared.nack.NackWritten.{NackWritten}
use Rattle.h26x_rtp.specs.Nack.{NackParts, NackFits, PairFits, pair_numbers, pair_bytes, pairs_in, nack_head, nack_bytes, nack_of, bits_count, behind_pair, nack_pairs, nack_count, nack_within, pairs_room, IsNackWritten}
use Rattle.h26x_rtp.specs.Words.{word_at, long_at}
use Rattle.h26x_rtp.proofs.NackLemmas.{bits_again, bits_below, count_within, pairs_size, pairs_within}
use Rattle.h26x_rtp.proofs.WordLemmas.{long_again, word_again}

-- the pairs are read back
pairs_back : (pairs : List NackPair) → AllByRecursion PairFits pairs → pairs_in (flat_map pair_bytes pairs) ≡ pairs
pairs_back [] fits = refl
pairs_back (pair ∷ pairs) (fit, fits) =
    let a = word_again pair.first fit.number in
    let b = word_again pair.following fit.bits in
    rw (a, b, pairs_back pairs fits) refl

-- what bytes with the head of a packet are read as
read_as : (bytes : List ℕ) (it : NackParts) → 16 ≤ length bytes → length bytes ≡ 4 * word_at bytes 2 + 4 → slice_index bytes 0 ≡ 129 →
    slice_index bytes 1 ≡ 205 → long_at bytes 4 ≡ it.sender → long_at bytes 8 ≡ it.media → pairs_in (drop 12 bytes) ≡ it.pairs → nack_of bytes ≡ Some it
read_as bytes it long len version type from media pairs =
    let a : nat_le 16 (length bytes) ≡ true = grind (arith, nat_tests, long) in
    let b : (length bytes == 4 * word_at bytes 2 + 4) ≡ true = grind (arith, nat_tests, len) in
    let c : (slice_index bytes 0 == 129) ≡ true = grind (arith, nat_tests, version) in
    let d : (slice_index bytes 1 == 205) ≡ true = grind (arith, nat_tests, type) in
    let e : (word_at bytes 2 == word_at bytes 2) ≡ true = grind (arith, nat_tests) in
    rw (a, b, c, d, e, from, media, pairs) refl

pub nack_again : (it : NackParts) → NackFits it → nack_of (nack_bytes it) ≡ Some it
nack_again it fits =
    let n = length it.pairs in
    let most = fits.most in
    let some = fits.some in
    let s = pairs_size it.pairs in
    let l = length-append (nack_head it.sender it.media n) (flat_map pair_bytes it.pairs) in
    let w : word_at (nack_bytes it) 2 ≡ 2 + n = word_again (2 + n) (omega (arith, most)) in
    read_as (nack_bytes it) it (omega (arith, l, s, some)) (omega (arith, l, s, w)) refl refl
    (long_again it.sender fits.from) (long_again it.media fits.of_media) (pairs_back it.pairs fits.each)

-- the pairs of numbers have a place in a packet
numbers_behind : (n : ℕ) (numbers : List ℕ) → AllByRecursion (λ number. number < 65536) numbers → AllByRecursion (λ number. number < 65536) (drop n numbers)
numbers_behind zero numbers all = all
numbers_behind (suc n) [] all = all
numbers_behind (suc n) (it ∷ numbers) (low, all) = numbers_behind n numbers all

pairs_fit : (most : ℕ) (numbers : List ℕ) → AllByRecursion (λ number. number < 65536) numbers → AllByRecursion PairFits (nack_pairs most numbers)
pairs_fit zero numbers all = tt
pairs_fit (suc n) [] all = tt
pairs_fit (suc n) (it ∷ numbers) (low, all) = (
  record { number = low; bits = bits_below 16 (next_sequence_number it) numbers },
  pairs_fit n (behind_pair it numbers) (numbers_behind (bits_count 16 (next_sequence_number it) numbers) numbers all),
)

some_pairs : (most : ℕ) (numbers : List ℕ) → 0 < most → 0 < length numbers → 0 < length (nack_pairs most numbers)
some_pairs zero numbers most some = absurd (omega (arith, most))
some_pairs (suc n) [] most some = absurd (omega (arith, some))
some_pairs (suc n) (it ∷ numbers) most some = omega arith

-- what is written is read
pub written_nack_read : (sender media : ℕ) (numbers old new : List ℕ) (written : NackWritten) → sender < 2 ^ 32 → media < 2 ^ 32 →
    AllByRecursion (λ number. number < 2 ^ 16) numbers → 0 < length numbers → IsNackWritten sender media numbers old new (Ok written) →
    nack_of (take written.size new) ≡ Some (nack_within sender media numbers (length old))
written_nack_read sender media [] old new written s m all some is = absurd (omega (arith, some))
written_nack_read sender media (it ∷ numbers) old new written s m all some (room, size, count, bytes) =
    let packet = nack_within sender media (it ∷ numbers) (length old) in
    let most = pairs_room (length old) in
    let a = some_pairs most (it ∷ numbers) (omega (arith, room)) some in
    let b = pairs_within most (it ∷ numbers) in
    ap (λ all. nack_of (take written.size all)) bytes
    ∙ ap nack_of (take_at (nack_bytes packet) (drop written.size old) written.size (sym size))
    ∙ nack_again packet (record {
      from = s;
      of_media = m;
      each = pairs_fit most (it ∷ numbers) all;
      some = omega (arith, a);
      most = omega (arith, b);
    })

-- and asks for the first ones of the numbers
pub pairs_again : (most : ℕ) (numbers : List ℕ) → flat_map pair_numbers (nack_pairs most numbers) ≡ take (nack_count most numbers) numbers
pairs_again zero numbers = refl
pairs_again (suc n) [] = refl
pairs_again (suc n) (it ∷ numbers) =
    let next = next_sequence_number it in
    let k = bits_count 16 next numbers in
    let behind = behind_pair it numbers in
    let m = nack_count n behind in
    let e : 1 + k + m ≡ suc (k + m) = omega arith in
    ap (λ l. it ∷ (l ++ flat_map pair_numbers (nack_pairs n behind))) (bits_again 16 next numbers)
    ∙ ap (λ l. it ∷ (take k numbers ++ l)) (pairs_again n behind)
    ∙ ap (λ l. it ∷ l) (sym (take-add k m numbers))
    ∙ ap (λ j. take j (it ∷ numbers)) (sym e)

-- all of them where there is room for their pairs
all_within : (n most : ℕ) (numbers : List ℕ) → length numbers ≤ n → length (nack_pairs n numbers) ≤ most → nack_count most numbers ≡ length numbers
all_within n zero [] few room = refl
all_within n (suc most) [] few room = refl
all_within zero most (it ∷ numbers) few room = absurd (omega (arith, few))
all_within (suc n) zero (it ∷ numbers) few room = absurd (omega (arith, room))
all_within (suc n) (suc most) (it ∷ numbers) few room =
    let k = bits_count 16 (next_sequence_number it) numbers in
    let w = count_within 16 (next_sequence_number it) numbers in
    let l = length-drop k numbers in
    let more = all_within n most (behind_pair it numbers) (omega (arith, l, few)) (omega (arith, room)) in
    omega (arith, more, l, w)

pub all_asked : (most : ℕ) (numbers : List ℕ) → length (nack_pairs (length numbers) numbers) ≤ most → nack_count most numbers ≡ length numbers
all_asked most numbers room = all_within (length numbers) most numbers (omega arith) room

-- and at least one
pub some_asked : (most : ℕ) (numbers : List ℕ) → 0 < most → 0 < length numbers → 0 < nack_count most numbers
some_asked zero numbers most some = absurd (omega (arith, most))
some_asked (suc n) [] most some = absurd (omega (arith, some))
some_asked (suc n) (it ∷ numbers) most some = omega arith
