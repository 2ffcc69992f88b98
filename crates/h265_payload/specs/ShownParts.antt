-- What `payload` shows, by the parts that it is made of (RFC 7798, 4.4).
use Rattle.std.specs.Prelude.{ℕ, Bool, List, ◌∷◌, take, drop, Option, Some}
use Rattle.h26x_core.specs.Word.{field}
use Rattle.h265_packets.specs.Payload.{OtherUnit}
use Rattle.h265_packets.specs.declared.payload.H265Payload.{H265Payload}
use Rattle.h265_packets.specs.declared.payload.H265Payload.TheVariants as p
use Rattle.h265_payload.specs.H265.{read}
use Rattle.h265_payload.specs.Shown.{shown, ShowsReading}

-- a further unit of an aggregate, with the difference of its number (DOND, 4.4.2) if it bears one
abbrev pub other_of : Option ℕ → List ℕ → OtherUnit
other_of dond unit = record { dond = dond; nal_unit = unit }

-- a single NAL unit packet (4.4.1): its header, DONL if it bears it, and what stands behind these
abbrev pub single_payload : Bool → ℕ → Option ℕ → List ℕ → H265Payload
single_payload has_donl header donl bytes = p.H265SingleNALUnitPacket (record {
  header = header;
  donl = donl;
  payload = bytes;
  has_donl = has_donl;
})

-- an aggregation packet (4.4.2): DONL and the first unit, and the others
abbrev pub aggregate_payload : Bool → Option ℕ → List ℕ → List OtherUnit → H265Payload
aggregate_payload has_donl donl first others = p.H265AggregationPacket (record {
  first = Some (record { donl = donl; nal_unit = first });
  others = others;
  has_donl = has_donl;
})

-- a fragmentation unit (4.4.3): its header, the byte of its marks, DONL and its data
abbrev pub fragment_payload : Bool → ℕ → ℕ → Option ℕ → List ℕ → H265Payload
fragment_payload has_donl header marks donl bytes = p.H265FragmentationUnitPacket (record {
  header = header;
  fu_header = marks;
  donl = donl;
  payload = bytes;
  has_donl = has_donl;
})

-- a PACI packet (4.4.4): its header, its fields word, and the extension that this word counts with
-- the payload behind it
abbrev pub paci_payload : ℕ → ℕ → List ℕ → H265Payload
paci_payload header fields bytes = p.H265PACIPacket (record {
  header = header;
  fields = fields;
  phes = take (field fields 8 4) bytes;
  payload = drop (field fields 8 4) bytes;
})

-- what is shown of a packet, by the bytes of its header and those behind them, is its reading
abbrev pub IsShownAsRead : Bool → ℕ → ℕ → List ℕ → Type 0
IsShownAsRead has_donl high low rest = ShowsReading has_donl high low
    (read has_donl (high ∷ low ∷ rest)) (shown has_donl (high ∷ low ∷ rest))
