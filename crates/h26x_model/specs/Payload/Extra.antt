-- What is told of the units that were written (str0m's rule).
use Rattle.std.specs.Prelude.{ℕ, nat_le, ◌||◌, if◌then◌else◌, List, [], ◌∷◌, length}
use Rattle.std.specs.List.{list_any}
use Rattle.h26x_core.specs.declared.extra.CodecExtra.{CodecExtra}
use Rattle.h26x_core.specs.declared.extra.CodecExtra.TheVariants as extras
use Rattle.h26x_model.specs.Payload.Format.{Format}

-- The extra after units. Those without a whole header don't count. If none counts it is as it was,
-- else the codec's variant, whose flag is true where a key unit is among them or the extra was that
-- variant with the flag true.
abbrev pub extra_after : Format → CodecExtra → List (List ℕ) → CodecExtra
extra_after f extra units =
    if list_any (λ unit. nat_le f.header_len (length unit)) units
    then f.extra (list_any f.is_key units || f.has_key extra)
    else extra

-- What is told of units where nothing was told before: nothing of no units, else the codec's
-- variant, whose flag is true where a key unit is among them.
abbrev pub first_extra : Format → List (List ℕ) → CodecExtra
first_extra f [] = extras.None
first_extra f (unit ∷ units) = f.extra (list_any f.is_key (unit ∷ units))
