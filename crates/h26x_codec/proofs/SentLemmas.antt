-- Which units of an access unit are sent.
use Rattle.std.proofs.Common.{◌≡◌, ap, refl, arith, ℕ, zero, suc, ◌<◌, true, List, [], ◌∷◌, length}
use Rattle.std.specs.Prelude.{filter}
use Rattle.h26x_packetizer.specs.declared.every_unit.EveryUnitError.{EveryUnitError}
use Rattle.h26x_packetizer.specs.declared.every_unit.EveryUnitError.TheVariants as u
use Rattle.h26x_packetizer.specs.declared.refusal.RefusedUnit.{RefusedUnit}
use Rattle.h26x_codec.specs.SentUnits.{is_sent, place_among}
use Rattle.h26x_codec.specs.declared.codec.Codec.{Codec}

-- with delimiters all are
pub all_sent : (codec : Codec) (units : List (List ℕ)) → filter (is_sent true codec) units ≡ units
all_sent codec [] = refl
all_sent codec (unit ∷ units) = ap (λ (l : List (List ℕ)). unit ∷ l) (all_sent codec units)

-- each at its own place
pub own_place : (codec : Codec) (units : List (List ℕ)) (place : ℕ) → place < length units →
    place_among (is_sent true codec) units place ≡ place
own_place codec [] place within = absurd (omega (arith, within))
own_place codec (unit ∷ units) zero within = refl
own_place codec (unit ∷ units) (suc place) within = ap suc (own_place codec units place (omega (arith, within)))

-- the unit that an error names, or this one
abbrev unit_in : EveryUnitError → RefusedUnit → RefusedUnit
unit_in (u.Unit unit) other = unit
unit_in u.OutOfMemory other = other

-- an error names one unit
pub same_unit : (a b : RefusedUnit) → u.Unit a ≡ u.Unit b → a ≡ b
same_unit a b is = ap (λ (e : EveryUnitError). unit_in e a) is
