-- Bits of bytes, and numbers that are read from them.
use Rattle.std.proofs.Common.{◌≡◌, ◌∙◌, ap, sym, refl, cond, ◌<◌, ◌^◌, ◌*◌, ◌+◌, ◌-◌, ◌/◌, ◌%◌, ℕ, zero, suc, Bool, true, false, List, ◌∷◌, nat_eq, bit_and, arith}
use Rattle.std.specs.Prelude.{not}
use Rattle.std.proofs.lemmas.Nat.{and_mask, pow-add}
use Rattle.h26x_core.specs.Word.{is_set}
use Rattle.h26x_access_units.specs.Bits.{low_bits, first_bit, behind_bit, behind_bits, number_from, bits_number, Code, code_from, code_of}

not_zero : (n : ℕ) → n < 2 → not (nat_eq n 0) ≡ nat_eq n 1
not_zero zero p = refl
not_zero (suc zero) p = refl
not_zero (suc (suc n)) p = absurd (omega (arith, p))

-- the bit at a place
pub bit_at : (byte place : ℕ) → not (nat_eq (bit_and (byte / 2 ^ place) 1) 0) ≡ is_set byte place
bit_at byte place =
    let n = byte / 2 ^ place in
    let e : bit_and n 1 ≡ n % 2 = and_mask n 1 in
    let width : 1 ≡ place - place + 1 = omega arith in
    ap (λ (m : ℕ). not (nat_eq m 0)) e ∙ not_zero (n % 2) (omega arith) ∙ ap (λ (m : ℕ). nat_eq (n % 2 ^ m) 1) width

-- where bits of a byte are left, the next one is at the place below
pub low_next : (byte left : ℕ) → 0 < left → low_bits byte left ≡ is_set byte (left - 1) ∷ low_bits byte (left - 1)
low_next byte zero p = absurd (omega (arith, p))
low_next byte (suc n) p =
    let e : n ≡ suc n - 1 = omega arith in
    ap (λ (m : ℕ). is_set byte m ∷ low_bits byte m) e

-- a number of one bit more
pub number_next : (value bit left : ℕ) (bits : List Bool) → bit ≡ cond (first_bit bits) 1 0 → number_from value (suc left) bits ≡ number_from (2 * value + bit) left (behind_bit bits)
number_next value bit left bits e = ap (λ (n : ℕ). number_from (2 * value + n) left (behind_bit bits)) (sym e)

-- it stays below the power of two of so many bits
pub number_below : (value bit count : ℕ) → value < 2 ^ count → bit < 2 → 2 * value + bit < 2 ^ (count + 1)
number_below value bit count p q = let e = pow-add 2 count 1 in omega (arith, e, p, q)

-- a code ends with the first bit that is set
pub code_ends : (it : Code) (left passed : ℕ) (bits : List Bool) → code_from (suc left) passed bits ≡ it → first_bit bits ≡ true →
    (2 ^ passed - 1 + bits_number passed (behind_bit bits) ≡ it.value) × (behind_bits passed (behind_bit bits) ≡ it.behind)
code_ends it left passed bits e is =
    let ended : Code = record { value = 2 ^ passed - 1 + bits_number passed (behind_bit bits); behind = behind_bits passed (behind_bit bits) } in
    let same : ended ≡ it = sym (ap (λ (b : Bool). cond b ended (code_from left (passed + 1) (behind_bit bits))) is) ∙ e in
    (ap (λ (code : Code). code.value) same, ap (λ (code : Code). code.behind) same)

-- and goes on behind one that isn't
pub code_goes_on : (it : Code) (left passed : ℕ) (bits : List Bool) → code_from (suc left) passed bits ≡ it → first_bit bits ≡ false →
    code_from left (passed + 1) (behind_bit bits) ≡ it
code_goes_on it left passed bits e is =
    let ended : Code = record { value = 2 ^ passed - 1 + bits_number passed (behind_bit bits); behind = behind_bits passed (behind_bit bits) } in
    sym (ap (λ (b : Bool). cond b ended (code_from left (passed + 1) (behind_bit bits))) is) ∙ e

-- what the definitions say
pub number_is : (count : ℕ) (bits : List Bool) → bits_number count bits ≡ number_from 0 count bits
unfolding bits_number
number_is count bits = refl

pub code_is : (bits : List Bool) → code_of bits ≡ code_from 32 0 bits
unfolding code_of
code_is bits = refl
