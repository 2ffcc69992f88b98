-- Units behind their lengths: which are found, and what ends them.
use Rattle.std.proofs.Common.{◌≡◌, ℕ, zero, suc, ◌+◌, ◌*◌, ◌<◌, ◌≤◌, true, false, cond, List, [], ◌∷◌, ◌++◌, length, take, drop, refl, sym, ap, ◌∙◌, ◌⊎◌, inl, inr, arith, length-append}
use Rattle.std.specs.Prelude.{◌||◌, nat_lt, Result, Ok, Err}
use Rattle.std.specs.List.{AllByRecursion}
use Rattle.std.proofs.lemmas.List.{take_at, drop_at, length-drop}
use Rattle.std.proofs.lemmas.Bool.Decides.{nat_tests}
use Rattle.h26x_core.specs.Pieces.{ArePieces}
use Rattle.h26x_core.specs.declared.error.PacketError.{PacketError}
use Rattle.h26x_core.specs.declared.error.PacketError.TheVariants.{ErrShortPacket, ErrH266CorruptedPacket}
use Rattle.h26x_core.proofs.PieceLemmas.{split_at}
use Rattle.h266_payload.specs.H266.{has_packet_type, with_unit, units_within}
use Rattle.h266_payload.specs.Reading.{IsAllowed, IsCut, IsLoneByte, IsBadLength}

-- the length of a unit of two bytes or more that is there is within bounds
in_bounds : (n : ℕ) (unit behind : List ℕ) → 2 ≤ length unit → n ≡ length unit → (nat_lt n 2 || nat_lt (length (unit ++ behind)) n) ≡ false
in_bounds n unit behind long same =
    let whole : length (unit ++ behind) ≡ length unit + length behind = length-append unit behind in
    let low : nat_lt n 2 ≡ false = grind (arith, nat_tests) in
    let high : nat_lt (length (unit ++ behind)) n ≡ false = grind (arith, nat_tests) in
    rw (low, high) refl

-- one allowed unit behind its length, and then the others
pub unit_within : (most high low : ℕ) (unit behind : List ℕ) → 2 ≤ length unit → high * 256 + low ≡ length unit → has_packet_type unit ≡ false →
    units_within (suc most) (high ∷ low ∷ unit ++ behind) ≡ with_unit unit (units_within most behind)
unit_within most high low unit behind long same own =
    rw (in_bounds (high * 256 + low) unit behind long same, take_at unit behind (high * 256 + low) (sym same), own, drop_at unit behind (high * 256 + low) (sym same)) refl

-- Allowed units behind their lengths, up to the end or to a fault: how these bytes are found to be.
pub data IsFound (bytes : List ℕ) (result : Result (List (List ℕ)) PacketError) : Type 0 where
  ToTheEnd : (units : List (List ℕ)) → ArePieces bytes units [] → AllByRecursion IsAllowed units → result ≡ Ok units → IsFound bytes result
  ToACut : (left : List ℕ) (units : List (List ℕ)) → ArePieces bytes units left → AllByRecursion IsAllowed units → IsCut left → result ≡ Err ErrShortPacket → IsFound bytes result
  ToAForbidden : (high low : ℕ) (unit behind : List ℕ) (units : List (List ℕ)) → ArePieces bytes units (high ∷ low ∷ unit ++ behind) → AllByRecursion IsAllowed units →
      high * 256 + low ≡ length unit → has_packet_type unit ≡ true → result ≡ Err ErrH266CorruptedPacket → IsFound bytes result

-- with one allowed unit more before them
one_more : (high low : ℕ) (bytes unit behind : List ℕ) (result : Result (List (List ℕ)) PacketError) →
    bytes ≡ high ∷ low ∷ unit ++ behind → high * 256 + low ≡ length unit → IsAllowed unit → IsFound behind result → IsFound bytes (with_unit unit result)
one_more high low bytes unit behind result is long own (ToTheEnd units are all same) =
    ToTheEnd (unit ∷ units) (high, low, behind, is, long, are) (own, all) (ap (with_unit unit) same)
one_more high low bytes unit behind result is long own (ToACut left units are all cut same) =
    ToACut left (unit ∷ units) (high, low, behind, is, long, are) (own, all) cut (ap (with_unit unit) same)
one_more high low bytes unit behind result is long own (ToAForbidden h l bad after units are all size forbidden same) =
    ToAForbidden h l bad after (unit ∷ units) (high, low, behind, is, long, are) (own, all) size forbidden (ap (with_unit unit) same)

-- a length out of bounds is under 2 or past the end
out_of_bounds : (n len : ℕ) → (nat_lt n 2 || nat_lt len n) ≡ true → (n < 2) ⊎ (len < n)
out_of_bounds n len h = elim (nat_lt n 2) as (λ b. nat_lt n 2 ≡ b → (b || nat_lt len n) ≡ true → (n < 2) ⊎ (len < n)) [
  | true ↦ λ k _. inl (grind (arith, nat_tests))
  | false ↦ λ _ k. inr (grind (arith, nat_tests))
] refl h

-- a length within bounds is of two bytes or more, and they are there
within_bounds : (n len : ℕ) → (nat_lt n 2 || nat_lt len n) ≡ false → (2 ≤ n) × (n ≤ len)
within_bounds n len h = elim (nat_lt n 2) as (λ b. nat_lt n 2 ≡ b → (b || nat_lt len n) ≡ false → (2 ≤ n) × (n ≤ len)) [
  | true ↦ λ _ k. absurd cc
  | false ↦ λ k j. (grind (arith, nat_tests), grind (arith, nat_tests))
] refl h

-- what is computed is how the bytes are found to be
pub found_within : (most : ℕ) (bytes : List ℕ) → length bytes ≤ most → IsFound bytes (units_within most bytes)
found_within most [] few = ToTheEnd [] refl tt refl
found_within zero (x ∷ bytes) few = absurd (omega arith)
found_within (suc most) (x ∷ []) few = ToACut (x ∷ []) [] refl tt (IsLoneByte x refl) refl
found_within (suc most) (high ∷ low ∷ bytes) few =
    let n = high * 256 + low in
    let len = length-drop n bytes in
    let next = found_within most (drop n bytes) (omega (arith, len)) in
    elim (nat_lt n 2 || nat_lt (length bytes) n) as (λ b. (nat_lt n 2 || nat_lt (length bytes) n) ≡ b →
    IsFound (high ∷ low ∷ bytes) (cond b (Err ErrShortPacket)
    (cond (has_packet_type (take n bytes)) (Err ErrH266CorruptedPacket) (with_unit (take n bytes) (units_within most (drop n bytes)))))) [
      | true ↦ λ bad. ToACut (high ∷ low ∷ bytes) [] refl tt (IsBadLength high low bytes refl (out_of_bounds n (length bytes) bad)) refl
      | false ↦ λ good.
          let bounds = within_bounds n (length bytes) good in
          let parts = split_at n bytes bounds.1 in
          let is = ap (λ (x : List ℕ). high ∷ low ∷ x) parts.0 in
          elim (has_packet_type (take n bytes)) as (λ b. has_packet_type (take n bytes) ≡ b →
          IsFound (high ∷ low ∷ bytes) (cond b (Err ErrH266CorruptedPacket) (with_unit (take n bytes) (units_within most (drop n bytes))))) [
            | true ↦ λ forbidden. ToAForbidden high low (take n bytes) (drop n bytes) [] is tt parts.1 forbidden refl
            | false ↦ λ own. let long = bounds.0 in let same = parts.1 in
                one_more high low (high ∷ low ∷ bytes) (take n bytes) (drop n bytes) (units_within most (drop n bytes)) is parts.1 (omega arith, own) next
          ] refl
    ] refl

-- units before a result
with_units : List (List ℕ) → Result (List (List ℕ)) PacketError → Result (List (List ℕ)) PacketError
with_units [] result = result
with_units (unit ∷ units) result = with_unit unit (with_units units result)

-- units before none are these units
units_ok : (units : List (List ℕ)) → with_units units (Ok []) ≡ Ok units
unfolding with_units
units_ok [] = refl
units_ok (unit ∷ units) = ap (with_unit unit) (units_ok units)

-- a fault behind units is a fault
units_err : (units : List (List ℕ)) (error : PacketError) → with_units units (Err error) ≡ Err error
unfolding with_units
units_err [] error = refl
units_err (unit ∷ units) error = ap (with_unit unit) (units_err units error)

-- allowed units are passed, up to what is left
passed : (most : ℕ) (bytes left : List ℕ) (units : List (List ℕ)) → length bytes ≤ most → ArePieces bytes units left → AllByRecursion IsAllowed units →
    (more : ℕ) × (units_within most bytes ≡ with_units units (units_within more left)) × (length left ≤ more)
unfolding with_units
passed most bytes left [] few same all = (most, ap (units_within most) same, rw (← same) few)
passed zero bytes left (unit ∷ units) few (high, low, behind, same, long, are) ((two, own), all) = absurd (let size = ap length same in omega arith)
passed (suc most) bytes left (unit ∷ units) few (high, low, behind, same, long, are) ((two, own), all) =
    let size : length bytes ≡ suc (suc (length unit + length behind)) = ap length same ∙ ap (λ k. suc (suc k)) (length-append unit behind) in
    let (more, is, enough) = passed most behind left units (omega arith) are all in
    (more, ap (units_within (suc most)) same ∙ unit_within most high low unit behind two long own ∙ ap (with_unit unit) is, enough)

-- a cut is too short
cut_short : (most : ℕ) (left : List ℕ) → length left ≤ most → IsCut left → units_within most left ≡ Err ErrShortPacket
cut_short zero left few (IsLoneByte byte same) = absurd (let size = ap length same in omega arith)
cut_short (suc most) left few (IsLoneByte byte same) = rw same refl
cut_short zero left few (IsBadLength high low bytes same bad) = absurd (let size = ap length same in omega arith)
cut_short (suc most) left few (IsBadLength high low bytes same (inl small)) =
    let test : nat_lt (high * 256 + low) 2 ≡ true = grind (arith, nat_tests) in rw (same, test) refl
cut_short (suc most) left few (IsBadLength high low bytes same (inr past)) =
    let test : (nat_lt (high * 256 + low) 2 || nat_lt (length bytes) (high * 256 + low)) ≡ true = grind (arith, nat_tests) in rw (same, test) refl

-- a forbidden unit has a whole header
forbidden_long : (unit : List ℕ) → has_packet_type unit ≡ true → 2 ≤ length unit
forbidden_long [] e = absurd cc
forbidden_long (high ∷ []) e = absurd cc
forbidden_long (high ∷ low ∷ unit) e = omega arith

-- a forbidden unit is corrupted
forbidden_corrupted : (most high low : ℕ) (unit behind : List ℕ) → length (high ∷ low ∷ unit ++ behind) ≤ most → high * 256 + low ≡ length unit → has_packet_type unit ≡ true →
    units_within most (high ∷ low ∷ unit ++ behind) ≡ Err ErrH266CorruptedPacket
forbidden_corrupted zero high low unit behind few long forbidden = absurd (omega arith)
forbidden_corrupted (suc most) high low unit behind few long forbidden =
    rw (in_bounds (high * 256 + low) unit behind (forbidden_long unit forbidden) long, take_at unit behind (high * 256 + low) (sym long), forbidden) refl

-- and bytes are found to be in one way only
pub only_found : (bytes : List ℕ) (result : Result (List (List ℕ)) PacketError) → IsFound bytes result → units_within (length bytes) bytes ≡ result
only_found bytes result (ToTheEnd units are all same) =
    let (more, is, enough) = passed (length bytes) bytes [] units (omega arith) are all in
    is ∙ units_ok units ∙ sym same
only_found bytes result (ToACut left units are all cut same) =
    let (more, is, enough) = passed (length bytes) bytes left units (omega arith) are all in
    is ∙ ap (with_units units) (cut_short more left enough cut) ∙ units_err units ErrShortPacket ∙ sym same
only_found bytes result (ToAForbidden high low unit behind units are all long forbidden same) =
    let (more, is, enough) = passed (length bytes) bytes (high ∷ low ∷ unit ++ behind) units (omega arith) are all in
    is ∙ ap (with_units units) (forbidden_corrupted more high low unit behind enough long forbidden) ∙ units_err units ErrH266CorruptedPacket ∙ sym same
