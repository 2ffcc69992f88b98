-- What `payload` shows of an accepted packet: its words, and its bytes at their places (RFC 7798,
-- 4.4).
use Rattle.std.specs.Prelude.{◌≡◌, ℕ, zero, suc, ◌+◌, ◌*◌, ◌%◌, nat_le, Bool, true, false, ◌&&◌, ◌==◌, if◌then◌else◌, List, [], ◌∷◌, length, map, take, drop, Option, Some, None}
use Rattle.std.specs.Option.{option_map_or}
use Rattle.h26x_core.specs.Word.{field, is_set}
use Rattle.h26x_core.specs.H265Unit.{type_of}
use Rattle.h26x_core.specs.Pieces.{pieces_of}
use Rattle.h26x_model.specs.Payload.Reading.{Reading, Single, Aggregate, Fragment, Paci, Refused}
use Rattle.h265_packets.specs.Header.{with_type}
use Rattle.h265_packets.specs.Paci.{paci_fields}
use Rattle.h265_payload.specs.H265.{paci_head}
use Rattle.h265_packets.specs.Payload.{OtherUnit, AggregationPacket, units_shown, empty_single}
use Rattle.h265_packets.specs.declared.payload.H265Payload.{H265Payload}
use Rattle.h265_packets.specs.declared.payload.H265Payload.TheVariants as p

-- a number in two bytes, where there is one (DONL)
abbrev pub donl_of : Bool → List ℕ → Option ℕ
donl_of true (d ∷ e ∷ bytes) = Some (d * 256 + e)
donl_of has_donl bytes = None

-- what stands behind it
abbrev pub behind_donl : Bool → List ℕ → List ℕ
behind_donl has_donl bytes = if has_donl then drop 2 bytes else bytes

-- a single NAL unit packet: DONL behind the header, and then the rest (4.4.1)
abbrev pub shown_single : Bool → ℕ → List ℕ → H265Payload
shown_single has_donl header rest = p.H265SingleNALUnitPacket (record {
  header = header;
  donl = donl_of has_donl rest;
  payload = behind_donl has_donl rest;
  has_donl = has_donl;
})

-- a fragmentation unit: the byte behind the header, DONL behind that where it starts a unit, and
-- then the data (4.4.3)
abbrev pub shown_fragment : Bool → ℕ → List ℕ → H265Payload
shown_fragment has_donl header [] = p.H265SingleNALUnitPacket empty_single
shown_fragment has_donl header (fu ∷ rest) = p.H265FragmentationUnitPacket (record {
  header = header;
  fu_header = fu;
  donl = donl_of (has_donl && is_set fu 7) rest;
  payload = behind_donl (has_donl && is_set fu 7) rest;
  has_donl = has_donl;
})

-- units that each stand behind the difference of their number (DOND) and their length (4.4.2)
abbrev pub apart_within : ℕ → List ℕ → List OtherUnit
apart_within zero bytes = []
apart_within (suc most) (difference ∷ high ∷ low ∷ bytes) =
    if nat_le (high * 256 + low) (length bytes)
    then (record { dond = Some difference; nal_unit = take (high * 256 + low) bytes }) ∷
    apart_within most (drop (high * 256 + low) bytes)
    else []
apart_within (suc most) bytes = []

-- a unit that stands behind its length alone
abbrev pub without_dond : List ℕ → OtherUnit
without_dond unit = record { dond = None; nal_unit = unit }

-- the units of an aggregate behind the first, up to one that is not whole
abbrev pub others_of : Bool → List ℕ → List OtherUnit
others_of false bytes = map without_dond (pieces_of bytes).whole
others_of true bytes = apart_within (length bytes) bytes

-- the units of an aggregate behind DONL: the first behind its length, and the others
abbrev pub aggregate_behind : Bool → Option ℕ → List ℕ → AggregationPacket
aggregate_behind has_donl donl (high ∷ low ∷ bytes) = record {
  first = Some (record { donl = donl; nal_unit = take (high * 256 + low) bytes });
  others = others_of has_donl (drop (high * 256 + low) bytes);
  has_donl = has_donl;
}
aggregate_behind has_donl donl bytes = record { first = None; others = []; has_donl = has_donl }

-- an aggregation packet: DONL behind the header, and then the units (4.4.2)
abbrev pub aggregate_shown : Bool → List ℕ → AggregationPacket
aggregate_shown has_donl rest = aggregate_behind has_donl (donl_of has_donl rest)
    (behind_donl has_donl rest)

-- a PACI packet: its fields word behind the header, the extension that this word counts, and then
-- the payload (4.4.4)
abbrev pub shown_paci : ℕ → List ℕ → H265Payload
shown_paci header (a ∷ b ∷ rest) = p.H265PACIPacket (record {
  header = header;
  fields = a * 256 + b;
  phes = take (field (a * 256 + b) 8 4) rest;
  payload = drop (field (a * 256 + b) 8 4) rest;
})
shown_paci header rest = p.H265SingleNALUnitPacket empty_single

-- that of a unit, by the bytes of its header and the data behind it, and an extension
abbrev pub shown_paci_of : ℕ → ℕ → List ℕ → List ℕ → H265Payload
shown_paci_of high low body phes = p.H265PACIPacket (record {
  header = with_type high 50 * 256 + low;
  fields = paci_fields high phes;
  phes = phes;
  payload = body;
})

-- an accepted packet, by its type
abbrev pub shown : Bool → List ℕ → H265Payload
shown has_donl (high ∷ low ∷ rest) =
    if type_of high == 48 then p.H265AggregationPacket (aggregate_shown has_donl rest)
    else if type_of high == 49 then shown_fragment has_donl (high * 256 + low) rest
    else if type_of high == 50 then shown_paci (high * 256 + low) rest
    else shown_single has_donl (high * 256 + low) rest
shown has_donl packet = p.H265SingleNALUnitPacket empty_single

-- the units of an aggregate that is shown
abbrev pub shown_units : H265Payload → Option (List (List ℕ))
shown_units (p.H265AggregationPacket packet) = Some (units_shown packet)
shown_units payload = None

-- the number behind this one, by its difference (DOND, 4.4.2)
abbrev pub don_behind : ℕ → Option ℕ → Option ℕ
don_behind n None = None
don_behind n (Some difference) = Some ((n + difference + 1) % 65536)

-- units behind another, each numbered by its difference: one more than that from the number before
abbrev pub units_with_dons : Option ℕ → List OtherUnit → List (List ℕ × Option ℕ)
units_with_dons don [] = []
units_with_dons None (other ∷ others) = (other.nal_unit, None) ∷ units_with_dons None others
units_with_dons (Some n) (other ∷ others) = (other.nal_unit, don_behind n other.dond) ∷
    units_with_dons (don_behind n other.dond) others

-- the units of an aggregate with their numbers: the first has DONL
abbrev pub units_numbered : AggregationPacket → List (List ℕ × Option ℕ)
units_numbered packet = option_map_or (λ first. (first.nal_unit, first.donl) ∷
    units_with_dons first.donl packet.others) packet.first []

-- the units of an aggregate: the first behind DONL's second byte, as the others stand behind DOND,
-- where packets bear numbers
abbrev pub units_in : Bool → List ℕ → List (List ℕ)
units_in has_donl bytes = map (λ other. other.nal_unit) (others_of has_donl bytes)

-- What is shown of a packet that is read, by its header's bytes: the kind of its reading, and the
-- reading's number and bytes; of an aggregate all units with their numbers; the byte behind a
-- fragment's header, which has its marks and its unit's type (RFC 7798, 4.4).
abbrev pub ShowsReading : Bool → ℕ → ℕ → Reading → H265Payload → Type 0
ShowsReading has_donl high low (Single unit don) payload =
    payload ≡ p.H265SingleNALUnitPacket (record {
      header = high * 256 + low;
      donl = don;
      payload = drop 2 unit;
      has_donl = has_donl;
    })
ShowsReading has_donl high low (Aggregate units) payload =
    (packet : AggregationPacket) × (payload ≡ p.H265AggregationPacket packet)
    × (packet.has_donl ≡ has_donl) × (units_numbered packet ≡ units)
ShowsReading has_donl high low (Fragment start end head don body) payload =
    (fu : ℕ) × (payload ≡ p.H265FragmentationUnitPacket (record {
      header = high * 256 + low;
      fu_header = fu;
      donl = don;
      payload = body;
      has_donl = has_donl;
    })) × (is_set fu 7 ≡ start) × (is_set fu 6 ≡ end)
    × (head ≡ with_type high (field fu 5 0) ∷ low ∷ [])
ShowsReading has_donl high low (Paci head fields extension body) payload =
    (payload ≡ p.H265PACIPacket (record {
      header = high * 256 + low;
      fields = fields;
      phes = extension;
      payload = body;
    })) × (head ≡ paci_head high low fields)
ShowsReading has_donl high low (Refused error) payload = Unit {0}
