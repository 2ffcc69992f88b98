-- What the laws ask of a payload format. Each codec's format is proved to meet these facts.
use Rattle.std.specs.Prelude.{◌≡◌, ℕ, ◌+◌, ◌%◌, ◌<◌, ◌≤◌, nat_le, Bool, true, false, ◌&&◌, if◌then◌else◌, List, [], ◌++◌, length, take, Option, None, IsTrue}
use Rattle.std.specs.List.{AllByRecursion}
use Rattle.h26x_core.specs.declared.extra.CodecExtra.TheVariants as extras
use Rattle.h26x_core.specs.Kind.{is_other}
use Rattle.h26x_model.specs.Payload.Reading.{Single, Aggregate, Fragment}
use Rattle.h26x_model.specs.Payload.Format.{Format, IsLimit, has_s_bit, has_e_bit, donl, donl_len, fragment_header_len}
use Rattle.h26x_model.specs.Send.Plan.{Item, Alone, Together, is_dropped}
use Rattle.h26x_model.specs.Send.Packets.{single_packet}
use Rattle.h26x_model.specs.Payload.Don.{don_sent, with_dons}

-- units that packets can carry
abbrev pub AreCarried : Format → List (List ℕ) → Type 0
AreCarried f units = AllByRecursion (λ unit. IsTrue (f.carries unit)) units

-- what a fragment has beside its data takes room: its headers, and the number where it starts
abbrev pub HeadersTakeRoom : Format → Type 0
HeadersTakeRoom f = (packet head body : List ℕ) (start end : Bool) (don : Option ℕ) →
    f.read packet ≡ Fragment start end head don body →
    length body + (fragment_header_len f + (if start then donl_len f else 0)) ≤ length packet

-- what a packetizer writes is read back: units alone, fragments, and sets that fit one packet at a
-- call's limit
pub record ReadsWhatItWrites (f : Format) : Type 0 where
  pub header : (unit : List ℕ) → IsTrue (f.carries unit) → f.header_len ≤ length unit
  pub single : (n : ℕ) (unit : List ℕ) → IsTrue (f.carries unit) →
      f.read (single_packet f n unit) ≡ Single unit (don_sent f n)
  pub fragment : (n : ℕ) (unit body : List ℕ) (start end : Bool) → IsTrue (f.carries unit) →
      0 < length body →
      f.read (f.fragment_header unit start end ++ ((if start then donl f n else []) ++ body))
      ≡ Fragment start end (take f.header_len unit) (if start then don_sent f n else None) body
  pub sets : (n limit : ℕ) (sets : List (List ℕ)) (unit : List ℕ) → IsLimit f limit →
      f.sets_fit limit sets ≡ true → 2 ≤ length sets →
      AreCarried f sets → IsTrue (f.carries unit) → f.read (f.sets_packet n sets unit) ≡ Aggregate
      (with_dons f n sets)

-- a fragment's header is no longer than it is counted, and sets that fit are within the limit
pub record FitsLimits (f : Format) : Type 0 where
  pub header : (unit : List ℕ) (start end : Bool) →
      length (f.fragment_header unit start end) ≤ fragment_header_len f
  pub sets : (limit n : ℕ) (sets : List (List ℕ)) (unit : List ℕ) → f.sets_fit limit sets ≡ true →
      length (f.sets_packet n sets unit) ≤ limit

-- a fragment's header is as long as it is counted, where its unit has a whole header
abbrev pub HeadersAreWhole : Format → Type 0
HeadersAreWhole f = (unit : List ℕ) (start end : Bool) → f.header_len ≤ length unit →
    length (f.fragment_header unit start end) ≡ fragment_header_len f

-- a fragment bears the marks that it was made with
abbrev pub MarksFragments : Format → Type 0
MarksFragments f = (unit behind : List ℕ) (start end : Bool) → f.header_len ≤ length unit →
    (has_s_bit f (f.fragment_header unit start end ++ behind) ≡ start)
    × (has_e_bit f (f.fragment_header unit start end ++ behind) ≡ end)

-- where two sets or more fit one packet, a fragment has room for data
abbrev pub SetsLeaveRoom : Format → Type 0
SetsLeaveRoom f = (limit : ℕ) (sets : List (List ℕ)) → 2 ≤ length sets →
    f.sets_fit limit sets ≡ true → fragment_header_len f + donl_len f < limit

-- the extra tells what it was made from, and nothing at first; and a key unit has a whole header
pub record ExtraTells (f : Format) : Type 0 where
  pub tells : (key : Bool) → f.has_key (f.extra key) ≡ key
  pub none : f.has_key extras.None ≡ false
  pub whole : (unit : List ℕ) → f.is_key unit ≡ true → nat_le f.header_len (length unit) ≡ true

-- a packet made tells whether it holds or begins a key unit; packets of sets do so where they bear
-- no numbers
pub record KnowsKeyUnits (f : Format) : Type 0 where
  pub single : (n : ℕ) (unit : List ℕ) → IsTrue (f.carries unit) →
      f.detects (single_packet f n unit) ≡ f.is_key unit
  pub fragment : (unit behind : List ℕ) (start end : Bool) → IsTrue (f.carries unit) →
      f.detects (f.fragment_header unit start end ++ behind) ≡ (start && f.is_key unit)
  pub sets : (n limit : ℕ) (sets : List (List ℕ)) (unit : List ℕ) → f.has_donl ≡ false →
      IsLimit f limit → f.sets_fit limit sets ≡ true →
      AreCarried f sets → IsTrue (f.carries unit) →
      AllByRecursion (λ set. f.is_key set ≡ false) sets →
      f.detects (f.sets_packet n sets unit) ≡ false

-- a key unit is no parameter set
abbrev pub KeyUnitsAreOther : Format → Type 0
KeyUnitsAreOther f = (unit : List ℕ) → f.is_key unit ≡ true → is_other (f.kind unit) ≡ true

-- An item of what calls bring whose units are carried: a unit that is not dropped; or two sets or
-- more that fit one packet at a call's limit before a unit that is carried too.
abbrev pub IsPlanned : Format → Item → Type 0
IsPlanned f (Alone limit unit) = IsTrue (f.carries unit) × (is_dropped f limit unit ≡ false)
IsPlanned f (Together limit sets unit) =
    IsLimit f limit × (f.sets_fit limit sets ≡ true) × (2 ≤ length sets) × AreCarried f sets
    × IsTrue (f.carries unit)
    × AllByRecursion (λ set. f.is_key set ≡ false) sets

-- what an item's packets need to be read back
abbrev pub CanSend : Format → Item → Type 0
CanSend f (Alone limit unit) = IsTrue (f.carries unit) × (is_dropped f limit unit ≡ false)
CanSend f (Together limit sets unit) = (n : ℕ) → f.read (f.sets_packet n sets unit) ≡ Aggregate
    (with_dons f n sets)

-- a packet of sets bears a number in two bytes, or none
pub record DonlHasTwoBytes (f : Format) : Type 0 where
  pub sets : (n : ℕ) (sets : List (List ℕ)) (unit : List ℕ) →
      f.sets_packet (n % 65536) sets unit ≡ f.sets_packet n sets unit
  pub none : f.has_donl ≡ false → (n m : ℕ) (sets : List (List ℕ)) (unit : List ℕ) →
      f.sets_packet n sets unit ≡ f.sets_packet m sets unit

-- the facts that each codec shows of its format
pub record IsPayloadFormat (f : Format) : Type 0 where
  pub headers : HeadersTakeRoom f
  pub reads : ReadsWhatItWrites f
  pub limits : FitsLimits f
  pub whole : HeadersAreWhole f
  pub marks : MarksFragments f
  pub sets : SetsLeaveRoom f
  pub extra : ExtraTells f
  pub detects : KnowsKeyUnits f
  pub other : KeyUnitsAreOther f
  pub dons : DonlHasTwoBytes f
