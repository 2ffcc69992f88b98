-- What an accepted H.265 packet is shown as: its words, and its bytes at their places (RFC 7798,
-- 4.4). What has DONL was read where packets bear numbers, or was marked so.
use Rattle.std.specs.Prelude.{ℕ, nat_eq, ◌+◌, ◌*◌, Bool, false, if◌then◌else◌, List, [], ◌∷◌, ◌++◌, map, Option, Some, None}
use Rattle.std.specs.Bool.{beq}
use Rattle.std.specs.Ordering.{eq_of_both, on}
use Rattle.std.specs.Option.{option_eq}
use Rattle.std.specs.Cmp.Lexicographic.{pointwise}
use Rattle.h26x_core.specs.Word.{is_set}

-- a single NAL unit packet (4.4.1): what stands behind the header and DONL
pub record SinglePacket : Type 0 where
  pub header : ℕ
  pub donl : Option ℕ
  pub payload : List ℕ
  pub has_donl : Bool

-- a fragmentation unit (4.4.3): the byte of S, E and the unit's type, and what stands behind it and
-- DONL
pub record FragmentationPacket : Type 0 where
  pub header : ℕ
  pub fu_header : ℕ
  pub donl : Option ℕ
  pub payload : List ℕ
  pub has_donl : Bool

-- the first unit of an aggregation packet (4.4.2)
pub record FirstUnit : Type 0 where
  pub donl : Option ℕ
  pub nal_unit : List ℕ

-- a further unit of it
pub record OtherUnit : Type 0 where
  pub dond : Option ℕ
  pub nal_unit : List ℕ

-- an aggregation packet (4.4.2)
pub record AggregationPacket : Type 0 where
  pub first : Option FirstUnit
  pub others : List OtherUnit
  pub has_donl : Bool

-- a PACI packet (4.4.4): its fields word, its extension, and what stands behind that
pub record PaciPacket : Type 0 where
  pub header : ℕ
  pub fields : ℕ
  pub phes : List ℕ
  pub payload : List ℕ

-- a single NAL unit packet of nothing
abbrev pub empty_single : SinglePacket
empty_single = record { header = 0; donl = None; payload = []; has_donl = false }

-- a fragmentation unit of nothing
abbrev pub empty_fragmentation : FragmentationPacket
empty_fragmentation = record {
  header = 0;
  fu_header = 0;
  donl = None;
  payload = [];
  has_donl = false;
}

-- a first unit of no byte
abbrev pub empty_first : FirstUnit
empty_first = record { donl = None; nal_unit = [] }

-- a further unit of no byte
abbrev pub empty_other : OtherUnit
empty_other = record { dond = None; nal_unit = [] }

-- an aggregation packet of no unit
abbrev pub empty_aggregation : AggregationPacket
empty_aggregation = record { first = None; others = []; has_donl = false }

-- a PACI packet of nothing
abbrev pub empty_paci : PaciPacket
empty_paci = record { header = 0; fields = 0; phes = []; payload = [] }

-- the first unit of an aggregation packet, where there is one
abbrev pub first_shown : Option FirstUnit → List (List ℕ)
first_shown None = []
first_shown (Some unit) = unit.nal_unit ∷ []

-- all units of an aggregation packet: the first, and then the others
abbrev pub units_shown : AggregationPacket → List (List ℕ)
units_shown p = first_shown p.first ++ map (λ unit. unit.nal_unit) p.others

-- TSCI of three bytes: bits 31 to 8 of a word (4.5)
abbrev pub tsci_word : ℕ → ℕ → ℕ → ℕ
tsci_word a b c = a * 16777216 + b * 65536 + c * 256

-- TSCI in an extension's first three bytes
abbrev pub tsci_in : List ℕ → Option ℕ
tsci_in (a ∷ b ∷ c ∷ phes) = Some (tsci_word a b c)
tsci_in phes = None

-- TSCI, which a packet bears where F0 is set and its extension has three bytes or more (4.5)
abbrev pub tsci_shown : PaciPacket → Option ℕ
tsci_shown p = if is_set p.fields 3 then tsci_in p.phes else None

-- Equality: packets are equal where all that they show is, and their marks are.

-- of single NAL unit packets
abbrev pub single_eq : SinglePacket → SinglePacket → Bool
single_eq = eq_of_both (on (λ it. it.header) nat_eq) (eq_of_both (on (λ it. it.donl)
    (option_eq nat_eq)) (eq_of_both (on (λ it. it.payload) (pointwise nat_eq)) (on
    (λ it. it.has_donl) beq)))

-- of fragmentation units
abbrev pub fragmentation_eq : FragmentationPacket → FragmentationPacket → Bool
fragmentation_eq = eq_of_both (on (λ it. it.header) nat_eq) (eq_of_both (on (λ it. it.fu_header)
    nat_eq) (eq_of_both (on (λ it. it.donl) (option_eq nat_eq)) (eq_of_both (on (λ it. it.payload)
    (pointwise nat_eq)) (on (λ it. it.has_donl) beq))))

-- of first units
abbrev pub first_eq : FirstUnit → FirstUnit → Bool
first_eq = eq_of_both (on (λ it. it.donl) (option_eq nat_eq)) (on (λ it. it.nal_unit)
    (pointwise nat_eq))

-- of further units
abbrev pub other_eq : OtherUnit → OtherUnit → Bool
other_eq = eq_of_both (on (λ it. it.dond) (option_eq nat_eq)) (on (λ it. it.nal_unit)
    (pointwise nat_eq))

-- of aggregation packets
abbrev pub aggregation_eq : AggregationPacket → AggregationPacket → Bool
aggregation_eq = eq_of_both (on (λ it. it.first) (option_eq first_eq)) (eq_of_both (on
    (λ it. it.others) (pointwise other_eq)) (on (λ it. it.has_donl) beq))

-- of PACI packets
abbrev pub paci_eq : PaciPacket → PaciPacket → Bool
paci_eq = eq_of_both (on (λ it. it.header) nat_eq) (eq_of_both (on (λ it. it.fields) nat_eq)
    (eq_of_both (on (λ it. it.phes) (pointwise nat_eq)) (on (λ it. it.payload) (pointwise nat_eq))))
