-- The units of an aggregate one by one: what stands first, and the others behind it.
use Rattle.std.proofs.Common.{◌≡◌, ℕ, zero, suc, ◌+◌, ◌*◌, ◌≤◌, true, cond, List, [], ◌∷◌, ◌++◌, length, take, drop, Some, refl, sym, ap, ◌∙◌, arith, length-append}
use Rattle.std.specs.Prelude.{nat_le, slice_index}
use Rattle.std.proofs.lemmas.List.{take_at, drop_at, length-drop}
use Rattle.h26x_core.proofs.PieceLemmas.{enough}
use Rattle.h265_packets.specs.Payload.{OtherUnit}
use Rattle.h265_payload.specs.Shown.{apart_within, others_of}

-- allowing more units than there are bytes changes nothing
pub apart_enough : (m k : ℕ) (bytes : List ℕ) → length bytes ≤ m → length bytes ≤ k → apart_within m bytes ≡ apart_within k bytes
apart_enough zero zero bytes a b = refl
apart_enough zero (suc k) [] a b = refl
apart_enough zero (suc k) (x ∷ bytes) a b = absurd (omega arith)
apart_enough (suc m) zero [] a b = refl
apart_enough (suc m) zero (x ∷ bytes) a b = absurd (omega arith)
apart_enough (suc m) (suc k) [] a b = refl
apart_enough (suc m) (suc k) (x ∷ []) a b = refl
apart_enough (suc m) (suc k) (x ∷ y ∷ []) a b = refl
apart_enough (suc m) (suc k) (difference ∷ high ∷ low ∷ bytes) a b =
    let n = high * 256 + low in
    let len = length-drop n bytes in
    ap (λ (others : List OtherUnit). cond (nat_le n (length bytes)) ((record { dond = Some difference; nal_unit = take n bytes }) ∷ others) [])
    (apart_enough m k (drop n bytes) (omega (arith, len)) (omega (arith, len)))

-- a unit behind its difference and its length, and then the others
pub apart_first : (difference high low : ℕ) (unit behind : List ℕ) → high * 256 + low ≡ length unit →
    others_of true (difference ∷ high ∷ low ∷ unit ++ behind) ≡ (record { dond = Some difference; nal_unit = unit }) ∷ others_of true behind
apart_first difference high low unit behind long =
    let n = high * 256 + low in
    let all = length-append unit behind in
    rw (
      long,
      enough (length unit) unit behind refl,
      take_at unit behind (length unit) refl,
      drop_at unit behind (length unit) refl,
      apart_enough (suc (suc (length (unit ++ behind)))) (length behind) behind (omega (arith, all)) (omega arith),
    )
    refl

-- the same of bytes, and what stands behind the first of them
pub apart_sliced : (bytes tail unit behind : List ℕ) → 3 ≤ length bytes → tail ≡ drop 1 bytes → drop 2 tail ≡ unit ++ behind →
    length unit ≡ slice_index tail 0 * 256 + slice_index tail 1 →
    others_of true bytes ≡ (record { dond = Some (slice_index bytes 0); nal_unit = unit }) ∷ others_of true behind
apart_sliced [] tail unit behind long same parts size = absurd (omega arith)
apart_sliced (x ∷ []) tail unit behind long same parts size = absurd (omega arith)
apart_sliced (x ∷ y ∷ []) tail unit behind long same parts size = absurd (omega arith)
apart_sliced (difference ∷ high ∷ low ∷ bytes) tail unit behind long same parts size =
    let rest : bytes ≡ unit ++ behind = sym (ap (drop 2) same) ∙ parts in
    let sizes : length unit ≡ high * 256 + low = rw same at size in
    ap (λ (rest : List ℕ). others_of true (difference ∷ high ∷ low ∷ rest)) rest ∙ apart_first difference high low unit behind (sym sizes)
