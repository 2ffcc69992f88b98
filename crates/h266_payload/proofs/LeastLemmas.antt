-- The least of a value over units, from the first on.
use Rattle.std.proofs.Common.{◌≡◌, ℕ, ◌≤◌, List, [], ◌∷◌, length, min, refl, sym, ap, ◌∙◌, arith}
use Rattle.h266_payload.specs.H266.{least, layer_of, temporal_of}

-- the least of a value over units and this number
abbrev pub least_from : (List ℕ → ℕ) → ℕ → List (List ℕ) → ℕ
least_from value low [] = low
least_from value low (unit ∷ units) = least_from value (min (value unit) low) units

least_more : (value : List ℕ → ℕ) (low : ℕ) (unit : List ℕ) (units : List (List ℕ)) → min low (least value (unit ∷ units)) ≡ least_from value (min (value unit) low) units
least_more value low unit [] = omega arith
least_more value low unit (second ∷ units) =
    let h = least_more value (min (value unit) low) second units in
    let same : min low (min (value unit) (least value (second ∷ units))) ≡ min (min (value unit) low) (least value (second ∷ units)) = omega arith in
    same ∙ h

-- where no unit has a greater one it is the least of all
pub least_is : (value : List ℕ → ℕ) (most : ℕ) (units : List (List ℕ)) → 1 ≤ length units → ((unit : List ℕ) → value unit ≤ most) → least_from value most units ≡ least value units
least_is value most [] some few = absurd (omega (arith, some))
least_is value most (unit ∷ []) some few = let h = few unit in omega (arith, h)
least_is value most (unit ∷ second ∷ units) some few =
    let h = few unit in
    let first : min (value unit) most ≡ value unit = omega (arith, h) in
    let more = least_more value (value unit) second units in
    ap (λ (low : ℕ). least_from value (min (value second) low) units) first ∙ sym more

-- a layer has six bits, and a temporal id three
pub layer_few : (unit : List ℕ) → layer_of unit ≤ 63
layer_few [] = omega arith
layer_few (high ∷ unit) = omega arith

pub temporal_few : (unit : List ℕ) → temporal_of unit ≤ 7
temporal_few [] = omega arith
temporal_few (high ∷ []) = omega arith
temporal_few (high ∷ low ∷ unit) = omega arith
