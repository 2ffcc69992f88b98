-- Pieces that were found take no more room than there is.
use Rattle.std.proofs.Common.{◌≡◌, ℕ, ◌+◌, ◌*◌, ◌<◌, ◌≤◌, Bool, true, false, List, [], ◌∷◌, ◌++◌, length, map, Option, refl, sym, ap, ◌∙◌, subst, arith, length-append}
use Rattle.std.specs.Prelude.{◌&&◌, nat_le, nat_lt}
use Rattle.std.specs.List.{sum_by, list_all, AllByRecursion}
use Rattle.std.proofs.lemmas.Bool.Decides.{nat_tests}
use Rattle.std.proofs.lemmas.List.Sums.{sum_by-cons}
use Rattle.h26x_core.specs.Pieces.{ArePieces}
use Rattle.h26x_model.proofs.SentLemmas.{all_parts}
use Rattle.h26x_model.specs.Payload.Reading.{without_don}
use Rattle.h26x_model.specs.Payload.Format.{Format, IsLimit}
use Rattle.h26x_model.specs.Send.Every.{IsOfBytes, FitsBySum}

-- a unit behind its length
abbrev pub with_length : List ℕ → ℕ
with_length unit = 2 + length unit

pub sum_of : (bytes : List ℕ) (pieces : List (List ℕ)) (left : List ℕ) → ArePieces bytes pieces left → sum_by with_length pieces ≤ length bytes
sum_of bytes [] left are = omega arith
sum_of bytes (piece ∷ pieces) left (high, low, behind, is, long, are) =
    let whole : length bytes ≡ length (high ∷ low ∷ piece ++ behind) = ap length is in
    let both = length-append piece behind in
    let next = sum_of behind pieces left are in
    let s : sum_by with_length (piece ∷ pieces) ≡ with_length piece + sum_by with_length pieces = sum_by-cons with_length piece pieces in
    omega (arith, whole, both, next, s)

-- sums of two lists
pub sum_append : (a b : List (List ℕ)) → sum_by with_length (a ++ b) ≡ sum_by with_length a + sum_by with_length b
sum_append [] b = omega arith
sum_append (x ∷ a) b =
    let h = sum_append a b in
    let s : sum_by with_length (x ∷ a ++ b) ≡ with_length x + sum_by with_length (a ++ b) = sum_by-cons with_length x (a ++ b) in
    let t : sum_by with_length (x ∷ a) ≡ with_length x + sum_by with_length a = sum_by-cons with_length x a in
    omega (arith, h, s, t)

-- two bytes hold the length of each piece of bytes
pub short_of : (bytes : List ℕ) (pieces : List (List ℕ)) (left : List ℕ) → IsOfBytes bytes → ArePieces bytes pieces left →
    AllByRecursion (λ piece. length piece < 65536) pieces
short_of bytes [] left small are = tt
short_of bytes (piece ∷ pieces) left small (high, low, behind, is, long, are) =
    let these : IsOfBytes (high ∷ low ∷ piece ++ behind) = subst IsOfBytes is small in
    let first = these.0 in let second = these.1.0 in
    let parts = all_parts (λ byte. byte < 256) piece behind these.1.1 in
    (omega (arith, first, second, long), short_of behind pieces left parts.1 are)

-- a unit with so many bytes before it
abbrev pub behind : ℕ → List ℕ → ℕ
behind each unit = each + length unit

-- units within 65535 bytes are short
short_sum : (each : ℕ) (units : List (List ℕ)) → sum_by (behind each) units ≤ 65535 → list_all (λ (unit : List ℕ). nat_lt (length unit) 65536) units ≡ true
short_sum each [] few = refl
short_sum each (unit ∷ units) few =
    let s : sum_by (behind each) (unit ∷ units) ≡ behind each unit + sum_by (behind each) units = sum_by-cons (behind each) unit units in
    let small : length unit < 65536 = omega (arith, s, few) in
    let here : nat_lt (length unit) 65536 ≡ true = grind (arith, nat_tests, small) in
    rw (here, short_sum each units (omega (arith, s, few))) refl

-- where a limit has two bytes, a test of the sum alone is a test of the lengths too
pub by_sum : (f : Format) (start each : ℕ) → f.has_max_packet_size ≡ true →
    ((limit : ℕ) (units : List (List ℕ)) → 1 ≤ length units → f.sets_fit limit units ≡ nat_le (start + sum_by (behind each) units) limit) → FitsBySum f start each
by_sum f start each max same limit units is some =
    let most : limit ≤ 65535 = is max in
    same limit units some ∙
    elim (nat_le (start + sum_by (behind each) units) limit) as (λ b. nat_le (start + sum_by (behind each) units) limit ≡ b →
    b ≡ (b && list_all (λ (unit : List ℕ). nat_lt (length unit) 65536) units)) [
      | true ↦ λ fit. let le : start + sum_by (behind each) units ≤ limit = grind (arith, nat_tests, fit) in sym (short_sum each units (omega (arith, le, most)))
      | false ↦ λ no. refl
    ] refl

-- a byte more before each
pub one_more_each : (units : List (List ℕ)) → sum_by (behind 3) units ≡ length units + sum_by (behind 2) units
one_more_each [] = refl
one_more_each (unit ∷ units) =
    let h = one_more_each units in
    let s : sum_by (behind 3) (unit ∷ units) ≡ behind 3 unit + sum_by (behind 3) units = sum_by-cons (behind 3) unit units in
    let t : sum_by (behind 2) (unit ∷ units) ≡ behind 2 unit + sum_by (behind 2) units = sum_by-cons (behind 2) unit units in
    omega (arith, h, s, t)

-- units that bear no numbers
pub without_dons : (units : List (List ℕ)) → map (λ (u : List ℕ × Option ℕ). u.0) (map without_don units) ≡ units
without_dons [] = refl
without_dons (unit ∷ units) = ap (λ (x : List (List ℕ)). unit ∷ x) (without_dons units)
