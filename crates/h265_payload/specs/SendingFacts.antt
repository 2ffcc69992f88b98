-- What a packetizer asks of H.265's format with either header.
use Rattle.std.specs.Prelude.{Bool, true, false}
use Rattle.h26x_model.specs.Payload.Facts.{FitsLimits, DonlHasTwoBytes}
use Rattle.h265_payload.specs.CodecFacts.{fits_limits, aggregate_numbers}
use Rattle.h265_payload.specs.EveryFacts.{fits_every, every_numbers}
use Rattle.h265_payload.specs.Sending.{h265_headed}

-- headers are as long as they are counted, and aggregates are within the limit
pub fits_headed : (has_donl lowest_header : Bool) → FitsLimits (h265_headed has_donl lowest_header)
fits_headed has_donl true = record {
  header = (fits_every has_donl).header;
  sets = (fits_every has_donl).sets;
}
fits_headed has_donl false = record {
  header = (fits_limits has_donl).header;
  sets = (fits_limits has_donl).sets;
}

-- an aggregate bears a number in two bytes, or none
pub headed_numbers : (has_donl lowest_header : Bool) →
    DonlHasTwoBytes (h265_headed has_donl lowest_header)
headed_numbers has_donl true = record {
  sets = (every_numbers has_donl).sets;
  none = (every_numbers has_donl).none;
}
headed_numbers has_donl false = record {
  sets = (aggregate_numbers has_donl).sets;
  none = (aggregate_numbers has_donl).none;
}
