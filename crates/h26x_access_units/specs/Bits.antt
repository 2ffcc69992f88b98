-- The bits of NAL units, and numbers that are read from them (Recommendation H.264, 7.2, 7.3.1, 9.1).
use Rattle.std.specs.Prelude.{ℕ, zero, suc, ◌+◌, ◌-◌, ◌*◌, ◌^◌, ◌==◌, nat_lt, Bool, false, ◌&&◌, if◌then◌else◌, List, [], ◌∷◌, ◌++◌, Option, Some, None}
use Rattle.h26x_core.specs.Word.{is_set}

-- The bytes of a unit behind two others, without those that keep start codes out of it: 3 behind two
-- zeros (7.3.1). What stands behind two zeros and is less ends it (7.4.1).
abbrev pub payload_bytes : ℕ → ℕ → List ℕ → List ℕ
payload_bytes before last [] = []
payload_bytes before last (byte ∷ bytes) =
    if (before == 0) && ((last == 0) && nat_lt byte 4)
    then (if byte == 3 then payload_bytes last byte bytes else [])
    else byte ∷ payload_bytes last byte bytes

-- behind 3, which keeps a start code out, any byte is the next one
abbrev pub byte_behind_three : List ℕ → Option (ℕ × ℕ × List ℕ)
byte_behind_three [] = None
byte_behind_three (byte ∷ bytes) = Some (3, byte, bytes)

-- the next byte of a unit behind two others: what stands before it, it, and what stands behind it
abbrev pub next_byte : ℕ → ℕ → List ℕ → Option (ℕ × ℕ × List ℕ)
next_byte before last [] = None
next_byte before last (byte ∷ bytes) =
    if (before == 0) && ((last == 0) && nat_lt byte 4)
    then (if byte == 3 then byte_behind_three bytes else None)
    else Some (last, byte, bytes)

-- so many bits of a byte, those with the lowest places, the highest first
abbrev pub low_bits : ℕ → ℕ → List Bool
low_bits byte zero = []
low_bits byte (suc count) = is_set byte count ∷ low_bits byte count

-- the bits of bytes, the highest of each first
abbrev pub bits_of : List ℕ → List Bool
bits_of [] = []
bits_of (byte ∷ bytes) = low_bits byte 8 ++ bits_of bytes

-- the bits of what stands from the first byte of a unit on
abbrev pub unit_bits : List ℕ → List Bool
unit_bits unit = bits_of (payload_bytes 1 1 unit)

-- the next bit, which is 0 behind the end
abbrev pub first_bit : List Bool → Bool
first_bit [] = false
first_bit (bit ∷ bits) = bit

-- what stands behind it
abbrev pub behind_bit : List Bool → List Bool
behind_bit [] = []
behind_bit (bit ∷ bits) = bits

-- what stands behind so many bits
abbrev pub behind_bits : ℕ → List Bool → List Bool
behind_bits zero bits = bits
behind_bits (suc count) bits = behind_bits count (behind_bit bits)

-- so many bits as a number, the highest first, behind others that are one: u(n) of 7.2
abbrev pub number_from : ℕ → ℕ → List Bool → ℕ
number_from value zero bits = value
number_from value (suc count) bits =
    number_from (2 * value + (if first_bit bits then 1 else 0)) count (behind_bit bits)

-- so many bits as a number
unfoldable pub bits_number : ℕ → List Bool → ℕ
bits_number count bits = number_from 0 count bits

-- a number, and what stands behind it
pub record Code : Type 0 where
  pub value : ℕ
  pub behind : List Bool

-- The number whose code begins with zeros, of which so many came and so many may come still: ue(v)
-- of 9.1. One with 32 zeros or more, as no code has, is 2^32 - 1.
abbrev pub code_from : ℕ → ℕ → List Bool → Code
code_from zero passed bits = record { value = 2 ^ 32 - 1; behind = bits }
code_from (suc left) passed bits = if first_bit bits
    then record {
      value = 2 ^ passed - 1 + bits_number passed (behind_bit bits);
      behind = behind_bits passed (behind_bit bits);
    }
    else code_from left (passed + 1) (behind_bit bits)

-- the next code
unfoldable pub code_of : List Bool → Code
code_of bits = code_from 32 0 bits

-- what stands behind so many codes; one of a number with a sign, se(v), is as long (9.1.1)
abbrev pub behind_codes : ℕ → List Bool → List Bool
behind_codes zero bits = bits
behind_codes (suc count) bits = behind_codes count (code_of bits).behind
