-- The units of an aggregate behind the first, each behind the difference of its number and its length.
use Rattle.std.proofs.Common.{◌≡◌, ℕ, zero, suc, ◌+◌, ◌*◌, ◌%◌, ◌<◌, ◌≤◌, true, false, cond, List, [], ◌∷◌, ◌++◌, length, take, drop, Option, Some, refl, sym, ap, ◌∙◌, arith, length-append}
use Rattle.std.specs.Prelude.{nat_le}
use Rattle.std.proofs.lemmas.List.{take_at, drop_at, length-drop}
use Rattle.std.proofs.lemmas.Bool.Decides.{nat_tests}
use Rattle.h265_payload.specs.H265.{further_units}
use Rattle.h265_payload.specs.Reading.{AreFurther, HasNoFurther}
use Rattle.h26x_core.proofs.PieceLemmas.{enough, split_at}

-- fewer than three bytes begin no unit
none_of_none : HasNoFurther []
none_of_none difference high low piece behind same long = cc

-- one byte begins no further unit
none_of_one : (x : ℕ) → HasNoFurther (x ∷ [])
none_of_one x difference high low piece behind same long = cc

-- nor do two bytes
none_of_two : (x y : ℕ) → HasNoFurther (x ∷ y ∷ [])
none_of_two x y difference high low piece behind same long = cc

-- a length that passes the end begins no unit
none_past : (difference high low : ℕ) (bytes : List ℕ) → length bytes < high * 256 + low → HasNoFurther (difference ∷ high ∷ low ∷ bytes)
none_past difference high low bytes past d h l piece behind same long =
    let first : high ≡ h = cc in let second : low ≡ l = cc in let rest : bytes ≡ piece ++ behind = cc in
    let whole = length-append piece behind in
    let size : length bytes ≡ length piece + length behind = ap length rest ∙ whole in
    let count : high * 256 + low ≡ length piece = rw (first, second) long in
    absurd (omega arith)

-- what is computed are the further units, and what is left has none
pub further_are : (most n : ℕ) (bytes : List ℕ) → length bytes ≤ most → (left : List ℕ) × AreFurther n bytes (further_units most n bytes) left × HasNoFurther left
further_are zero n [] few = ([], refl, none_of_none)
further_are zero n (x ∷ bytes) few = absurd (omega arith)
further_are (suc most) n [] few = ([], refl, none_of_none)
further_are (suc most) n (x ∷ []) few = (x ∷ [], refl, none_of_one x)
further_are (suc most) n (x ∷ y ∷ []) few = (x ∷ y ∷ [], refl, none_of_two x y)
further_are (suc most) n (difference ∷ high ∷ low ∷ bytes) few =
    let k = high * 256 + low in
    let m = (n + difference + 1) % 65536 in
    let len = length-drop k bytes in
    let next = further_are most m (drop k bytes) (omega (arith, len)) in
    elim (nat_le k (length bytes)) as (λ b. nat_le k (length bytes) ≡ b →
    (left : List ℕ) × AreFurther n (difference ∷ high ∷ low ∷ bytes) (cond b ((take k bytes, Some m) ∷ further_units most m (drop k bytes)) []) left × HasNoFurther left) [
      | true ↦ λ h. let within : k ≤ length bytes = grind (arith, nat_tests) in let s = split_at k bytes within in
          (next.0, (difference, high, low, drop k bytes, ap (λ (x : List ℕ). difference ∷ high ∷ low ∷ x) s.0, s.1, refl, next.1), next.2)
      | false ↦ λ h. let past : length bytes < k = grind (arith, nat_tests) in (difference ∷ high ∷ low ∷ bytes, refl, none_past difference high low bytes past)
    ] refl

-- where no further unit stands at the beginning there are none
pub no_further : (most n : ℕ) (bytes : List ℕ) → HasNoFurther bytes → further_units most n bytes ≡ []
no_further zero n bytes none = refl
no_further (suc most) n [] none = refl
no_further (suc most) n (x ∷ []) none = refl
no_further (suc most) n (x ∷ y ∷ []) none = refl
no_further (suc most) n (difference ∷ high ∷ low ∷ bytes) none =
    let k = high * 256 + low in
    let m = (n + difference + 1) % 65536 in
    elim (nat_le k (length bytes)) as (λ b. nat_le k (length bytes) ≡ b →
    cond b ((take k bytes, Some m) ∷ further_units most m (drop k bytes)) [] ≡ []) [
      | true ↦ λ h. let within : k ≤ length bytes = grind (arith, nat_tests) in let s = split_at k bytes within in
          absurd (none difference high low (take k bytes) (drop k bytes) (ap (λ (x : List ℕ). difference ∷ high ∷ low ∷ x) s.0) s.1)
      | false ↦ λ h. refl
    ] refl

-- and there are no others
pub only_further : (most n : ℕ) (bytes : List ℕ) (pairs : List (List ℕ × Option ℕ)) (left : List ℕ) → length bytes ≤ most → AreFurther n bytes pairs left → HasNoFurther left →
    further_units most n bytes ≡ pairs
only_further most n bytes [] left few same none = rw same (no_further most n left none)
only_further zero n [] (pair ∷ pairs) left few (difference, high, low, behind, same, long, don, later) none = absurd cc
only_further zero n (x ∷ bytes) (pair ∷ pairs) left few are none = absurd (omega arith)
only_further (suc most) n bytes (pair ∷ pairs) left few (difference, high, low, behind, same, long, don, later) none =
    let size : length bytes ≡ suc (suc (suc (length pair.0 + length behind))) = ap length same ∙ ap (λ k. suc (suc (suc k))) (length-append pair.0 behind) in
    rw (
      same,
      long,
      enough (length pair.0) pair.0 behind refl,
      take_at pair.0 behind (length pair.0) refl,
      drop_at pair.0 behind (length pair.0) refl,
      only_further most ((n + difference + 1) % 65536) behind pairs left (omega arith) later none,
    )
    (ap (λ (x : Option ℕ). (pair.0, x) ∷ pairs) (sym don))
