-- Every unit of a list, in order and as it is, in the fewest packets (RFC 6184, 5.6 to 5.8; RFC
-- 7798, 4.4; RFC 9328, 4.3).
use Rattle.std.specs.Prelude.{◌≡◌, ℕ, ◌+◌, ◌<◌, ◌≤◌, nat_le, nat_lt, Bool, true, false, ◌&&◌, if◌then◌else◌, List, [], ◌∷◌, ◌++◌, length, map, IsTrue}
use Rattle.std.specs.List.{AllByRecursion, flat_map, list_all, sum_by}
use Rattle.h26x_core.specs.Word.{is_set}
use Rattle.h26x_model.specs.Payload.Reading.{Reading, Single, Aggregate, Fragment, Paci, Refused}
use Rattle.h26x_model.specs.Payload.Format.{Format, IsLimit, donl_len}
use Rattle.h26x_model.specs.Payload.Facts.{HeadersTakeRoom, AreCarried, ReadsWhatItWrites, FitsLimits, DonlHasTwoBytes}
use Rattle.h26x_model.specs.Send.Plan.{Item, Alone, Together, fits_one_packet, is_dropped}
use Rattle.h26x_model.specs.Send.Packets.{plan_packets}
use Rattle.h26x_model.specs.Send.Limit.{AreWithinLimit}
use Rattle.h26x_model.specs.Receive.Received.{received, units_after}
use Rattle.h26x_model.specs.Carry.Sent.{CanSendAll}

-- a format whose aggregates have the header of their own units
abbrev pub with_own_aggregates : Format → (ℕ → List (List ℕ) → List ℕ) → Format
with_own_aggregates f aggregate = record f { sets_packet = λ n units unit. aggregate n units }

-- whether units go together in one packet: each may share one, and all fit
abbrev pub go_together : Format → (List ℕ → Bool) → ℕ → List (List ℕ) → Bool
go_together f may_share limit units = list_all may_share units && f.sets_fit limit units

-- The groups of units where the first of them is begun: each unit goes with those before it if all
-- go together.
abbrev pub groups_from : (List (List ℕ) → Bool) → List (List ℕ) → List (List ℕ) →
    List (List (List ℕ))
groups_from together begun [] = begun ∷ []
groups_from together begun (unit ∷ units) =
    if together (begun ++ unit ∷ []) then groups_from together (begun ++ unit ∷ []) units
    else begun ∷ groups_from together (unit ∷ []) units

-- the groups of units
abbrev pub groups_of : (List (List ℕ) → Bool) → List (List ℕ) → List (List (List ℕ))
groups_of together [] = []
groups_of together (unit ∷ units) = groups_from together (unit ∷ []) units

-- a group of one unit is this unit, alone or in fragments; another is an aggregate
abbrev pub units_items : ℕ → List (List ℕ) → List Item
units_items limit [] = []
units_items limit (unit ∷ []) = Alone limit unit ∷ []
units_items limit (unit ∷ other ∷ units) = Together limit (unit ∷ other ∷ units) unit ∷ []

-- what is sent of units of which none is left out, where these may share a packet
abbrev pub every_unit : Format → (List ℕ → Bool) → ℕ → List (List ℕ) → List Item
every_unit f may_share limit units = flat_map (units_items limit)
    (groups_of (go_together f may_share limit) units)

-- none of the units is dropped for its size
abbrev pub AreSendable : Format → ℕ → List (List ℕ) → Type 0
AreSendable f limit units = AllByRecursion (λ unit. is_dropped f limit unit ≡ false) units

-- a packet holds several units only where each may share one
abbrev pub IsShared : (List ℕ → Bool) → Reading → Type 0
IsShared may_share (Aggregate units) = list_all may_share (map (λ u. u.0) units) ≡ true
IsShared may_share reading = Unit {0}

-- numbers that are bytes
abbrev pub IsOfBytes : List ℕ → Type 0
IsOfBytes bytes = AllByRecursion (λ byte. byte < 256) bytes

-- A rival: any packets within the limit of which a receiver gets these units, however it does.
pub record IsEveryRival (f : Format) (may_share : List ℕ → Bool) (limit : ℕ)
    (units packets : List (List ℕ)) : Type 0 where
  pub bytes : AllByRecursion IsOfBytes packets
  pub within : AreWithinLimit limit packets
  pub shared : AllByRecursion (λ packet. IsShared may_share (f.read packet)) packets
  pub brings : received (map f.read packets) ≡ units

-- what is read of a packet takes room in it
abbrev pub IsReadWithin : Format → List ℕ → Reading → Type 0
IsReadWithin f packet (Single unit don) = length unit + donl_len f ≤ length packet
IsReadWithin f packet (Aggregate units) = f.sets_fit (length packet) (map (λ u. u.0) units) ≡ true
IsReadWithin f packet (Fragment start end head don body) = length head ≤ f.header_len
IsReadWithin f packet (Paci head fields extension body) = length (head ++ body) + donl_len f
    ≤ length packet
IsReadWithin f packet (Refused error) = Unit {0}

-- what a packet brings takes room in it
pub record HoldsWhatItBrings (f : Format) : Type 0 where
  pub fragment : HeadersTakeRoom f
  pub packet : (packet : List ℕ) → IsOfBytes packet → IsReadWithin f packet (f.read packet)

-- of units that fit one packet those in front do, and those behind; all fit a longer one; and one of
-- them alone does
pub record FitsInPart (f : Format) : Type 0 where
  pub wider : (limit most : ℕ) (units : List (List ℕ)) → limit ≤ most →
      f.sets_fit limit units ≡ true → f.sets_fit most units ≡ true
  pub front : (limit : ℕ) (units others : List (List ℕ)) →
      f.sets_fit limit (units ++ others) ≡ true → f.sets_fit limit units ≡ true
  pub back : (limit : ℕ) (units others : List (List ℕ)) →
      f.sets_fit limit (units ++ others) ≡ true → f.sets_fit limit others ≡ true
  pub alone : (limit : ℕ) (unit : List ℕ) → f.sets_fit limit (unit ∷ []) ≡ true →
      fits_one_packet f limit unit ≡ true

-- units behind so many bytes, each with so many before it and short enough for a length of two
-- bytes, are within the limit
abbrev pub sum_fits : ℕ → ℕ → ℕ → List (List ℕ) → Bool
sum_fits start each limit units = nat_le (start + sum_by (λ unit. each + length unit) units) limit
    && list_all (λ unit. nat_lt (length unit) 65536) units

-- whether units fit one packet is a matter of this sum
abbrev pub FitsBySum : Format → ℕ → ℕ → Type 0
FitsBySum f start each = (limit : ℕ) (units : List (List ℕ)) → IsLimit f limit → 1 ≤ length units →
    f.sets_fit limit units ≡ sum_fits start each limit units

-- the facts on which the laws of every unit stand
pub record PacksUnits (f : Format) : Type 0 where
  pub reads : ReadsWhatItWrites f
  pub limits : FitsLimits f
  pub dons : DonlHasTwoBytes f
  pub holds : HoldsWhatItBrings f
  pub parts : FitsInPart f

-- no rival has fewer packets
abbrev pub TakesFewestPackets : Format → Type 0
TakesFewestPackets f = (may_share : List ℕ → Bool) (limit n : ℕ) (units packets : List (List ℕ)) →
    AreSendable f limit units → IsEveryRival f may_share limit units packets →
    length (plan_packets f n (every_unit f may_share limit units)) ≤ length packets

-- every unit is received, whatever came before
abbrev pub BringsEveryUnit : Format → Type 0
BringsEveryUnit f = (may_share : List ℕ → Bool) (limit n : ℕ) (units : List (List ℕ))
    (earlier : List Reading) → IsLimit f limit → AreCarried f units → AreSendable f limit units →
    units_after earlier (map f.read (plan_packets f n (every_unit f may_share limit units))) ≡ units

-- what is planned of every unit can be sent, as the laws on lost packets ask
abbrev pub SendsEveryUnit : Format → Type 0
SendsEveryUnit f = (may_share : List ℕ → Bool) (limit : ℕ) (units : List (List ℕ)) → IsLimit f limit →
    AreCarried f units → AreSendable f limit units →
    CanSendAll f (every_unit f may_share limit units)

-- no packet is longer than the limit
abbrev pub EveryIsWithin : Format → Type 0
EveryIsWithin f = (may_share : List ℕ → Bool) (limit n : ℕ) (units : List (List ℕ)) →
    AreSendable f limit units →
    AreWithinLimit limit (plan_packets f n (every_unit f may_share limit units))

-- whether F is set in a unit's header
abbrev pub has_f_bit : List ℕ → Bool
has_f_bit [] = false
has_f_bit (first ∷ unit) = is_set first 7

-- whether a unit has a header of its own, not that of a packet: one with a byte more, which the
-- packets of some formats want, is carried
abbrev pub has_own_header : Format → List ℕ → Bool
has_own_header f unit = f.carries (unit ++ 0 ∷ [])

-- units of so many bytes with a header of their own are carried
abbrev pub CarriesByHeader : Format → ℕ → Type 0
CarriesByHeader f least = (unit : List ℕ) → has_own_header f unit ≡ true → least ≤ length unit →
    IsTrue (f.carries unit)
