-- The first bytes of H.264 packets, and which rule reads a packet that begins so.
use Rattle.std.proofs.Common.{◌≡◌, ℕ, ◌+◌, ◌<◌, ◌≤◌, true, false, eqb, List, ◌∷◌, None, refl, arith, ◌⊎◌, inl, inr}
use Rattle.std.specs.Prelude.{◌≢◌, IsTrue, nat_le, nat_lt, ◌&&◌}
use Rattle.std.proofs.lemmas.Bool.{and_parts}
use Rattle.std.proofs.lemmas.Bool.Decides.{nat_tests}
use Rattle.h26x_core.specs.H264Unit.{type_of}
use Rattle.h26x_model.specs.Payload.Reading.{Single, Refused}
use Rattle.h26x_core.specs.Pieces.{pieces_of}
use Rattle.h26x_core.specs.declared.error.PacketError.TheVariants.{NaluTypeIsNotHandled}
use Rattle.h264_payload.specs.H264.{read, carries, reference_bits, aggregate_of, fragment_of}

-- a type has five bits
pub type_below : (byte : ℕ) → type_of byte < 32
type_below byte = omega arith

-- so it is below 64 too
pub type_fits : (byte : ℕ) → type_of byte < 64
type_fits byte = omega arith

-- an FU-A's indicator has type 28
pub indicator_type : (byte : ℕ) → type_of (28 + reference_bits byte) ≡ 28
indicator_type byte = omega arith

-- and the NRI of its unit
pub indicator_bits : (byte : ℕ) → reference_bits (28 + reference_bits byte) ≡ reference_bits byte
indicator_bits byte = omega arith

-- a byte with F clear is its NRI and its type
pub byte_of_parts : (byte : ℕ) → byte < 128 → reference_bits byte + type_of byte ≡ byte
byte_of_parts byte h = omega arith

-- what is known of the first byte of a unit that packets carry
pub carried_first : (first : ℕ) (unit : List ℕ) → IsTrue (carries (first ∷ unit)) → (first < 128) × (1 ≤ type_of first) × (type_of first ≤ 23)
carried_first first unit h =
    let p = and_parts (nat_lt first 0x80 && nat_le 1 (type_of first)) (nat_le (type_of first) 23) h in
    let q = and_parts (nat_lt first 0x80) (nat_le 1 (type_of first)) p.0 in
    let clear : nat_lt first 0x80 ≡ true = q.0 in
    let least : nat_le 1 (type_of first) ≡ true = q.1 in
    let most : nat_le (type_of first) 23 ≡ true = p.1 in
    (grind (arith, nat_tests), grind (arith, nat_tests), grind (arith, nat_tests))

-- the tests on a type from 1 to 23
pub unit_tests : (type : ℕ) → 1 ≤ type → type ≤ 23 → (eqb type 24 ≡ false) × (eqb type 28 ≡ false) × (nat_le 1 type ≡ true) × (nat_le type 23 ≡ true)
unit_tests type least most = (grind (arith, nat_tests), grind (arith, nat_tests), grind (arith, nat_tests), grind (arith, nat_tests))

-- types 1 to 23 are read as a unit
pub unit_is_read : (first : ℕ) (rest : List ℕ) → 1 ≤ type_of first → type_of first ≤ 23 → read (first ∷ rest) ≡ Single (first ∷ rest) None
unit_is_read first rest least most = let t = unit_tests (type_of first) least most in rw (t.0, t.1, t.2, t.3) refl

-- type 24 is read as a STAP-A
pub stap_is_read : (first : ℕ) (rest : List ℕ) → type_of first ≡ 24 → read (first ∷ rest) ≡ aggregate_of (pieces_of rest)
stap_is_read first rest is = rw is refl

-- type 28 is read as an FU-A
pub fragment_is_read : (first : ℕ) (rest : List ℕ) → type_of first ≡ 28 → read (first ∷ rest) ≡ fragment_of first rest
fragment_is_read first rest is = rw is refl

-- every other type is refused
pub other_is_read : (first : ℕ) (rest : List ℕ) → (type_of first ≡ 0) ⊎ (23 < type_of first) → type_of first ≢ 24 → type_of first ≢ 28 →
    read (first ∷ rest) ≡ Refused (NaluTypeIsNotHandled (type_of first))
other_is_read first rest (inl is) no_stap no_fragment = rw is refl
other_is_read first rest (inr past) no_stap no_fragment =
    let a : eqb (type_of first) 24 ≡ false = grind (arith, nat_tests) in
    let b : eqb (type_of first) 28 ≡ false = grind (arith, nat_tests) in
    let low : nat_le 1 (type_of first) ≡ true = grind (arith, nat_tests) in
    let high : nat_le (type_of first) 23 ≡ false = grind (arith, nat_tests) in
    rw (a, b, low, high) refl
