-- Units of an aggregate, one after the other, and what they bring to a depacketizer.
use Rattle.std.proofs.Common.{◌≡◌, ℕ, ◌+◌, Bool, true, false, List, [], ◌∷◌, ◌++◌, length, length-append, map, Option, refl, sym, ap, ◌∙◌, arith}
use Rattle.std.specs.Prelude.{take_while}
use Rattle.std.specs.List.{list_any}
use Rattle.std.proofs.lemmas.List.Sums.{take_while-cons, sum_by-cons}
use Rattle.h26x_model.specs.Payload.Reading.{without_don}
use Rattle.h26x_core.specs.ByteStream.{unit_prefix, byte_stream}
use Rattle.h26x_core.specs.Pieces.{Pieces, with_piece}
use Rattle.h26x_depacketizer.specs.Run.{written_len}

-- a long unit is the first that is looked at
first_kept : (long : List ℕ → Bool) (unit : List ℕ) (pieces behind : Pieces) → pieces ≡ with_piece unit behind → long unit ≡ true →
    take_while long pieces.whole ≡ unit ∷ take_while long behind.whole
first_kept long unit pieces behind same is = ap (λ (p : Pieces). take_while long p.whole) same ∙ take_while-cons long unit behind.whole ∙ rw is refl

-- one without the property is passed over
pub passed_over : (has long : List ℕ → Bool) (unit : List ℕ) (pieces behind : Pieces) (answer : Bool) → pieces ≡ with_piece unit behind → long unit ≡ true → has unit ≡ false →
    list_any has (take_while long pieces.whole) ≡ answer → list_any has (take_while long behind.whole) ≡ answer
passed_over has long unit pieces behind answer same is other h =
    let passed : list_any has (unit ∷ take_while long behind.whole) ≡ list_any has (take_while long behind.whole) = rw other refl in
    sym (ap (list_any has) (first_kept long unit pieces behind same is) ∙ passed) ∙ h

-- one with it is found
pub found_first : (has long : List ℕ → Bool) (unit : List ℕ) (pieces behind : Pieces) (answer : Bool) → pieces ≡ with_piece unit behind → long unit ≡ true → has unit ≡ true →
    list_any has (take_while long pieces.whole) ≡ answer → true ≡ answer
found_first has long unit pieces behind answer same is this h =
    let found : list_any has (unit ∷ take_while long behind.whole) ≡ true = rw this refl in
    sym (ap (list_any has) (first_kept long unit pieces behind same is) ∙ found) ∙ h

-- numbers put beside units and left out again
pub units_only : (units : List (List ℕ)) → map (λ (u : List ℕ × Option ℕ). u.0) (map without_don units) ≡ units
units_only [] = refl
units_only (unit ∷ units) = ap (λ (x : List (List ℕ)). unit ∷ x) (units_only units)

-- what stands before a unit has four bytes
prefix_long : (avc : Bool) (unit : List ℕ) → length (unit_prefix avc unit) ≡ 4
prefix_long true unit = refl
prefix_long false unit = refl

-- units take as many bytes as are written
pub length_written : (avc : Bool) (units : List (List ℕ)) → length (byte_stream avc units) ≡ written_len units
length_written avc [] = refl
length_written avc (unit ∷ units) =
    let this = length-append (unit_prefix avc unit) unit in
    let four = prefix_long avc unit in
    let more = length_written avc units in
    let sum : length (unit_prefix avc unit ++ unit) + length (byte_stream avc units) ≡ (4 + length unit) + written_len units = omega (arith, this, four, more) in
    length-append (unit_prefix avc unit ++ unit) (byte_stream avc units) ∙ sum ∙ sym (sum_by-cons (λ (u : List ℕ). 4 + length u) unit units)
