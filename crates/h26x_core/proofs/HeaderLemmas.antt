-- The byte behind a fragment's header: S, E and the unit's type.
use Rattle.std.proofs.Common.{◌≡◌, ℕ, ◌+◌, ◌<◌, Bool, true, false, arith}
use Rattle.std.proofs.lemmas.Bool.Decides.{nat_tests}
use Rattle.h26x_core.specs.Word.{field, is_set, flag}

-- it has the start bit that it was made with
pub start_back : (start end : Bool) (type : ℕ) → type < 64 → is_set (flag start 0x80 + flag end 0x40 + type) 7 ≡ start
start_back true true type h = grind (arith, nat_tests)
start_back true false type h = grind (arith, nat_tests)
start_back false true type h = grind (arith, nat_tests)
start_back false false type h = grind (arith, nat_tests)

-- so with the end bit
pub end_back : (start end : Bool) (type : ℕ) → type < 64 → is_set (flag start 0x80 + flag end 0x40 + type) 6 ≡ end
end_back true true type h = grind (arith, nat_tests)
end_back true false type h = grind (arith, nat_tests)
end_back false true type h = grind (arith, nat_tests)
end_back false false type h = grind (arith, nat_tests)

-- and with the type, where types have five bits
pub type_back : (start end : Bool) (type : ℕ) → type < 32 → field (flag start 0x80 + flag end 0x40 + type) 4 0 ≡ type
type_back true true type h = omega arith
type_back true false type h = omega arith
type_back false true type h = omega arith
type_back false false type h = omega arith

-- or six
pub six_bits_back : (start end : Bool) (type : ℕ) → type < 64 → field (flag start 0x80 + flag end 0x40 + type) 5 0 ≡ type
six_bits_back true true type h = omega arith
six_bits_back true false type h = omega arith
six_bits_back false true type h = omega arith
six_bits_back false false type h = omega arith
