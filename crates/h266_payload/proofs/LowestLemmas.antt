-- The header of an aggregate is that of its sets.
use Rattle.std.proofs.Common.{◌≡◌, ℕ, ◌+◌, ◌*◌, ◌≤◌, ◌||◌, max, Bool, true, false, cond, eqb, List, [], ◌∷◌, length, refl, sym, subst, arith, eq-eqb}
use Rattle.std.specs.List.{list_any, AllByRecursion}
use Rattle.std.proofs.lemmas.Bool.Decides.{nat_tests}
use Rattle.h26x_core.specs.Word.{field, is_set}
use Rattle.h26x_core.specs.H266Unit.{type_of}
use Rattle.h266_payload.specs.H266.{has_forbidden_bit, layer_of, temporal_of, least}
use Rattle.h266_payload.specs.AggregateHeader.{IsLowest, HaveTemporalIds, IsHeadedBySets}

-- the least value is at most what all values are at most
least_most : (most : ℕ) (value : List ℕ → ℕ) → ((set : List ℕ) → value set ≤ most) → (sets : List (List ℕ)) → least value sets ≤ most
least_most most value small [] = omega arith
least_most most value small (set ∷ []) = small set
least_most most value small (set ∷ second ∷ sets) = let s = small set in omega (arith, s)

-- and at least what all are at least
least_at : (n : ℕ) (value : List ℕ → ℕ) (set : List ℕ) (sets : List (List ℕ)) → AllByRecursion (λ set. n ≤ value set) (set ∷ sets) → n ≤ least value (set ∷ sets)
least_at n value set [] (this, others) = this
least_at n value set (second ∷ sets) (this, others) = let h = least_at n value second sets others in omega (arith, this, h)

-- what is at most the least value is at most each
all_least : (value : List ℕ → ℕ) (n : ℕ) (set : List ℕ) (sets : List (List ℕ)) → n ≤ least value (set ∷ sets) → AllByRecursion (λ set. n ≤ value set) (set ∷ sets)
all_least value n set [] below = (below, tt)
all_least value n set (second ∷ sets) below = (omega arith, all_least value n second sets (omega arith))

-- a set has the least value
is_there : (value : List ℕ → ℕ) (set : List ℕ) (sets : List (List ℕ)) (n : ℕ) → n ≡ least value (set ∷ sets) → list_any (λ set. eqb (value set) n) (set ∷ sets) ≡ true
is_there value set [] n same = let e : eqb (value set) n ≡ true = eq-eqb (value set) n (sym same) in rw e refl
is_there value set (second ∷ sets) n same =
    let later : n ≡ least value (second ∷ sets) → list_any (λ set. eqb (value set) n) (second ∷ sets) ≡ true = is_there value second sets n in
    elim (eqb (value set) n) as (λ b. eqb (value set) n ≡ b → (b || list_any (λ set. eqb (value set) n) (second ∷ sets)) ≡ true) [
      | true ↦ λ _. refl
      | false ↦ λ no. later (grind (arith, nat_tests))
    ] refl

-- the least value of sets is the lowest
is_lowest : (value : List ℕ → ℕ) (sets : List (List ℕ)) → 1 ≤ length sets → IsLowest value sets (least value sets)
is_lowest value [] some = absurd (omega arith)
is_lowest value (set ∷ sets) some = record {
  there = is_there value set sets (least value (set ∷ sets)) refl;
  least = all_least value (least value (set ∷ sets)) set sets (omega arith);
}

-- a layer has six bits
layer_small : (set : List ℕ) → layer_of set ≤ 63
layer_small [] = omega arith
layer_small (high ∷ set) = omega arith

-- and a temporal id three
temporal_small : (set : List ℕ) → temporal_of set ≤ 7
temporal_small [] = omega arith
temporal_small (high ∷ []) = omega arith
temporal_small (high ∷ low ∷ set) = omega arith

-- a header's fields are what it was made of
f_back : (f : Bool) (layer : ℕ) → layer ≤ 63 → is_set (cond f 0x80 0 + layer) 7 ≡ f
f_back true layer small = let one : field (0x80 + layer) 7 7 ≡ 1 = omega arith in grind (arith, nat_tests)
f_back false layer small = let none : field (0 + layer) 7 7 ≡ 0 = omega arith in grind (arith, nat_tests)

z_back : (f : Bool) (layer : ℕ) → layer ≤ 63 → is_set (cond f 0x80 0 + layer) 6 ≡ false
z_back true layer small = let none : field (0x80 + layer) 6 6 ≡ 0 = omega arith in grind (arith, nat_tests)
z_back false layer small = let none : field (0 + layer) 6 6 ≡ 0 = omega arith in grind (arith, nat_tests)

layer_back : (f : Bool) (layer : ℕ) → layer ≤ 63 → field (cond f 0x80 0 + layer) 5 0 ≡ layer
layer_back true layer small = omega arith
layer_back false layer small = omega arith

type_back : (temporal : ℕ) → temporal ≤ 7 → type_of (28 * 8 + max 1 temporal) ≡ 28
type_back temporal few = omega arith

temporal_back : (temporal : ℕ) → 1 ≤ temporal → temporal ≤ 7 → field (28 * 8 + max 1 temporal) 2 0 ≡ temporal
temporal_back temporal some few = omega arith

-- some sets have a first
first_at : (sets : List (List ℕ)) → 1 ≤ length sets → HaveTemporalIds sets → 1 ≤ least temporal_of sets
first_at [] some ids = absurd (omega arith)
first_at (set ∷ sets) some ids = least_at 1 temporal_of set sets ids

-- the packet of sets has their header
pub is_headed : (has_donl : Bool) (n : ℕ) (sets : List (List ℕ)) (unit : List ℕ) → IsHeadedBySets has_donl n sets unit
is_headed has_donl n sets unit some ids =
    let f = list_any has_forbidden_bit sets in
    let layer = least layer_of sets in
    let temporal = least temporal_of sets in
    let small : layer ≤ 63 = least_most 63 layer_of layer_small sets in
    let few : temporal ≤ 7 = least_most 7 temporal_of temporal_small sets in
    let one : 1 ≤ temporal = first_at sets some ids in
    record {
      forbidden = f_back f layer small;
      z = z_back f layer small;
      type = type_back temporal few;
      layer = subst (IsLowest layer_of sets) (sym (layer_back f layer small)) (is_lowest layer_of sets some);
      temporal = subst (IsLowest temporal_of sets) (sym (temporal_back temporal one few)) (is_lowest temporal_of sets some);
    }
