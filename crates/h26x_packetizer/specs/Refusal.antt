-- Units that can't go, where every unit goes.
use Rattle.std.specs.Prelude.{ℕ, ◌+◌, nat_lt, Bool, true, false, if◌then◌else◌, List, [], ◌∷◌, length, Option, Some, None}
use Rattle.h26x_model.specs.Payload.Format.{Format}
use Rattle.h26x_model.specs.Send.Plan.{fits_one_packet, is_dropped}
use Rattle.h26x_model.specs.Send.Every.{has_f_bit, has_own_header}
use Rattle.h26x_packetizer.specs.declared.packing.Packing.{Packing}
use Rattle.h26x_packetizer.specs.declared.packing.Packing.TheVariants as p
use Rattle.h26x_packetizer.specs.declared.refusal.WhyRefused.{WhyRefused}
use Rattle.h26x_packetizer.specs.declared.refusal.WhyRefused.TheVariants.{WithoutHeader, Forbidden, OfPacketType, TooLong}
use Rattle.h26x_packetizer.specs.declared.refusal.RefusedUnit.{RefusedUnit}

-- whether a unit is too long: for its fragments, or where none may go (RFC 6184, 6.2) for one packet
abbrev pub is_too_long : Format → Packing → ℕ → List ℕ → Bool
is_too_long f p.Single limit unit = if fits_one_packet f limit unit then false else true
is_too_long f packing limit unit = is_dropped f limit unit

-- why a unit can't go, by the first of these that holds
abbrev pub unit_refusal : Format → Packing → ℕ → List ℕ → Option WhyRefused
unit_refusal f packing limit unit =
    if nat_lt (length unit) f.header_len then Some WithoutHeader
    else if has_f_bit unit then Some Forbidden
    else if has_own_header f unit then
    (if is_too_long f packing limit unit then Some TooLong else None)
    else Some OfPacketType

-- the unit that stands at this place, where it is refused for that; else what is said of the others
abbrev pub first_refusal : Option WhyRefused → ℕ → ℕ → Option RefusedUnit → Option RefusedUnit
first_refusal None place len others = others
first_refusal (Some why) place len others = Some record { place = place; len = len; why = why }

-- the first of the units that can't go, where they stand from this place on
abbrev pub units_refusal : Format → Packing → ℕ → ℕ → List (List ℕ) → Option RefusedUnit
units_refusal f packing limit place [] = None
units_refusal f packing limit place (unit ∷ units) =
    first_refusal (unit_refusal f packing limit unit) place (length unit)
    (units_refusal f packing limit (place + 1) units)
