-- The fields of a PACI packet that was packed, and its TSCI.
use Rattle.std.proofs.Common.{◌≡◌, ℕ, ◌+◌, ◌*◌, ◌<◌, ◌≤◌, Bool, true, false, cond, eqb, List, [], ◌∷◌, length, None, refl, arith}
use Rattle.std.specs.Prelude.{nat_le}
use Rattle.std.proofs.lemmas.Bool.Decides.{nat_tests}
use Rattle.h26x_core.specs.Word.{field, is_set, flag}
use Rattle.h26x_core.specs.H265Unit.{is_forbidden, type_of}
use Rattle.h265_packets.specs.Paci.{paci_fields}
use Rattle.h265_packets.specs.Payload.{PaciPacket, tsci_in, tsci_shown}

-- the fields of a word: A, the type, the extension's length, F0, and three bits that are clear
pub record ArePacked (forbidden tsci : Bool) (unit_type len w : ℕ) : Type 0 where
  pub a : field w 15 15 ≡ flag forbidden 1
  pub ctype : field w 14 9 ≡ unit_type
  pub phs_size : field w 8 4 ≡ len
  pub f0 : field w 3 3 ≡ flag tsci 1
  pub others : field w 2 0 ≡ 0
  pub two_bytes : w < 65536

-- each field has its bits
are_packed : (forbidden tsci : Bool) (unit_type len : ℕ) → unit_type < 64 → len ≤ 31 →
    ArePacked forbidden tsci unit_type len (flag forbidden 0x8000 + unit_type * 512 + len * 16 + flag tsci 8)
are_packed true true unit_type len t s = record { a = omega arith; ctype = omega arith; phs_size = omega arith; f0 = omega arith; others = omega arith; two_bytes = omega arith }
are_packed true false unit_type len t s = record { a = omega arith; ctype = omega arith; phs_size = omega arith; f0 = omega arith; others = omega arith; two_bytes = omega arith }
are_packed false true unit_type len t s = record { a = omega arith; ctype = omega arith; phs_size = omega arith; f0 = omega arith; others = omega arith; two_bytes = omega arith }
are_packed false false unit_type len t s = record { a = omega arith; ctype = omega arith; phs_size = omega arith; f0 = omega arith; others = omega arith; two_bytes = omega arith }

-- the fields of a packet
pub fields_are : (high : ℕ) (phes : List ℕ) → length phes ≤ 31 → ArePacked (is_forbidden high) (nat_le 3 (length phes)) (type_of high) (length phes) (paci_fields high phes)
fields_are high phes within = are_packed (is_forbidden high) (nat_le 3 (length phes)) (type_of high) (length phes) (omega arith) within

-- a flag is set as it was
flag_back : (b : Bool) → eqb (flag b 1) 1 ≡ b
flag_back true = refl
flag_back false = refl

pub a_back : (high : ℕ) (phes : List ℕ) → length phes ≤ 31 → is_set (paci_fields high phes) 15 ≡ is_forbidden high
a_back high phes within = let f = fields_are high phes within in rw f.a (flag_back (is_forbidden high))

pub f0_back : (high : ℕ) (phes : List ℕ) → length phes ≤ 31 → is_set (paci_fields high phes) 3 ≡ nat_le 3 (length phes)
f0_back high phes within = let f = fields_are high phes within in rw f.f0 (flag_back (nat_le 3 (length phes)))

-- an extension of fewer than three bytes holds no TSCI
tsci_within : (phes : List ℕ) → cond (nat_le 3 (length phes)) (tsci_in phes) None ≡ tsci_in phes
tsci_within [] = refl
tsci_within (a ∷ []) = refl
tsci_within (a ∷ b ∷ []) = refl
tsci_within (a ∷ b ∷ c ∷ phes) = let long : nat_le 3 (length (a ∷ b ∷ c ∷ phes)) ≡ true = grind (arith, nat_tests) in rw long refl

-- TSCI is shown where the extension holds it
pub tsci_back : (high : ℕ) (p : PaciPacket) → length p.phes ≤ 31 → p.fields ≡ paci_fields high p.phes → tsci_shown p ≡ tsci_in p.phes
tsci_back high p within same = rw (same, f0_back high p.phes within) (tsci_within p.phes)
