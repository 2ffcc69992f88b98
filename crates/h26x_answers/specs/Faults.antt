-- Rules of the RFCs that a format of one's own may break.
use Rattle.std.specs.Prelude.{ℕ, ◌*◌, nat_lt, if◌then◌else◌, List, Option, Some, None}
use Rattle.h26x_answers.specs.declared.fault.FormatFault.{FormatFault}
use Rattle.h26x_answers.specs.declared.fault.FormatFault.TheVariants.{BelowLevel, AboveLevel}
use Rattle.h26x_fmtp.specs.Tables.{ParameterRow}
use Rattle.h26x_fmtp.specs.Reading.{FormatParameters, number_at}

-- a limit is at least what the level asks for, where it is given
abbrev pub below_at : ℕ → ℕ → Option ℕ → Option FormatFault
below_at place least None = None
below_at place least (Some number) =
    if nat_lt number least then Some (BelowLevel place) else None

abbrev pub fault_below : List ParameterRow → FormatParameters → ℕ → ℕ → Option FormatFault
fault_below rows it place least = below_at place least (number_at rows it place)

-- of H.265 and H.266 it is no more than 16 times that either (RFC 7798, section 7.1, max-lsr to max-tc;
-- RFC 9328, section 7.2, max-lsr)
abbrev pub outside_at : ℕ → ℕ → Option ℕ → Option FormatFault
outside_at place least None = None
outside_at place least (Some number) =
    if nat_lt (16 * least) number then Some (AboveLevel place) else below_at place least (Some number)

abbrev pub fault_outside : List ParameterRow → FormatParameters → ℕ → ℕ → Option FormatFault
fault_outside rows it place least = outside_at place least (number_at rows it place)
