-- Numbers of two and four bytes, and flags, written and read.
use Rattle.std.proofs.Common.{◌≡◌, ℕ, zero, suc, ◌+◌, ◌*◌, ◌/◌, ◌%◌, ◌<◌, Bool, true, false, [], ◌∷◌, refl, arith, eqb}
use Rattle.std.proofs.lemmas.Bool.Decides.{nat_tests}
use Rattle.h26x_core.specs.Word.{field, is_set, flag, word, long_word}

-- two bytes are the word of their number
pub word_of : (a b : ℕ) → a < 256 → b < 256 → word (a * 256 + b) ≡ a ∷ b ∷ []
word_of a b ha hb =
    let high : (a * 256 + b) / 256 % 256 ≡ a = omega arith in
    let low : (a * 256 + b) % 256 ≡ b = omega arith in
    rw (high, low) refl

-- four bytes are the word of theirs
pub long_of : (a b c d : ℕ) → a < 256 → b < 256 → c < 256 → d < 256 → long_word ((a * 256 + b) * 65536 + (c * 256 + d)) ≡ a ∷ b ∷ c ∷ d ∷ []
long_of a b c d ha hb hc hd =
    let n = (a * 256 + b) * 65536 + (c * 256 + d) in
    let one : n / 16777216 % 256 ≡ a = omega arith in
    let two : n / 65536 % 256 ≡ b = omega arith in
    let three : n / 256 % 256 ≡ c = omega arith in
    let four : n % 256 ≡ d = omega arith in
    rw (one, two, three, four) refl

-- a number of two bytes, read back
pub word_again : (n : ℕ) → n < 65536 → n / 256 % 256 * 256 + n % 256 ≡ n
word_again n h = omega arith

-- a number of four bytes, read back
pub long_again : (n : ℕ) → n < 4294967296 → (n / 16777216 % 256 * 256 + n / 65536 % 256) * 65536 + (n / 256 % 256 * 256 + n % 256) ≡ n
long_again n h = omega arith

-- a flag of a bit is the bit in its place
pub flag_of : (bit k : ℕ) → bit < 2 → flag (eqb bit 1) k ≡ bit * k
flag_of zero k h = omega arith
flag_of (suc zero) k h = omega arith
flag_of (suc (suc n)) k h = absurd (omega arith)

-- what the first byte says, of the byte made of it
pub record FirstBack (padded extended : Bool) (count first : ℕ) : Type 0 where
  pub version : field first 7 6 ≡ 2
  pub p : is_set first 5 ≡ padded
  pub x : is_set first 4 ≡ extended
  pub csrcs : field first 3 0 ≡ count

pub first_back : (padded extended : Bool) (count : ℕ) → count < 16 → FirstBack padded extended count (128 + flag padded 32 + flag extended 16 + count)
first_back true true count h = record { version = omega arith; p = grind (arith, nat_tests); x = grind (arith, nat_tests); csrcs = omega arith }
first_back true false count h = record { version = omega arith; p = grind (arith, nat_tests); x = grind (arith, nat_tests); csrcs = omega arith }
first_back false true count h = record { version = omega arith; p = grind (arith, nat_tests); x = grind (arith, nat_tests); csrcs = omega arith }
first_back false false count h = record { version = omega arith; p = grind (arith, nat_tests); x = grind (arith, nat_tests); csrcs = omega arith }

-- a bit above seven others is read back, and so are these
pub top_back : (set : Bool) (n : ℕ) → n < 128 → is_set (flag set 128 + n) 7 ≡ set
top_back true n h = grind (arith, nat_tests)
top_back false n h = grind (arith, nat_tests)

pub low_back : (set : Bool) (n : ℕ) → n < 128 → field (flag set 128 + n) 6 0 ≡ n
low_back true n h = omega arith
low_back false n h = omega arith

-- a byte is its bit 7 and those below
pub top_of : (byte : ℕ) → byte < 256 → flag (is_set byte 7) 128 + field byte 6 0 ≡ byte
top_of byte h = let f = flag_of (byte / 128 % 2) 128 (omega arith) in rw f (omega arith)

-- a first byte of version 2 is its flags and its count
pub first_of : (byte : ℕ) → byte < 256 → field byte 7 6 ≡ 2 → 128 + flag (is_set byte 5) 32 + flag (is_set byte 4) 16 + field byte 3 0 ≡ byte
first_of byte h version =
    let f = flag_of (byte / 32 % 2) 32 (omega arith) in
    let g = flag_of (byte / 16 % 2) 16 (omega arith) in
    rw (f, g) (omega arith)
