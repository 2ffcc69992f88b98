-- What holds of all that is sent, each in one word.
use Rattle.std.specs.Prelude.{◌≡◌, ℕ, ◌≤◌, true, false, List, ◌∷◌, ◌++◌, length, map, IsTrue}
use Rattle.std.specs.List.{Contains}
use Rattle.h26x_model.specs.Payload.Format.{Format}
use Rattle.h26x_model.specs.Send.Group.{Entry, Group, split, AreGroups, latest_sets}
use Rattle.h26x_model.specs.Send.Calls.{Call, packet_limit}
use Rattle.h26x_model.specs.Send.Plan.{plan, fits_one_packet, is_dropped}
use Rattle.h26x_model.specs.Send.WaitingSets.{WaitingSets, AreWaitingSets, sets_waiting, entries_with_limit, plan_with_waiting, waiting_after}
use Rattle.h26x_model.specs.Send.Fragments.{AreFragments, ReadsFragments, AreMarked}
use Rattle.h26x_model.specs.Send.Limit.{AreWithinLimit}
use Rattle.h26x_model.specs.Send.Again.{NothingDropped}
use Rattle.h26x_model.specs.Send.PacketizerState.{PacketizerState, one_unit_packets, has_no_effect, HaveSameEffect}

-- a list is groups and a rest in no other way than it is split
abbrev pub HasOneGrouping : Format → List Entry → Type 0
HasOneGrouping f entries = (groups : List Group) (rest : List Entry) →
    AreGroups f entries groups rest → split f entries ≡ record { groups = groups; rest = rest }

-- the sets that are left to wait after entries
abbrev pub sets_left : Format → List Entry → List (List ℕ)
sets_left f entries = latest_sets f (split f entries).rest

-- entries behind the sets that wait, these at a limit
abbrev pub entries_behind_sets : ℕ → WaitingSets → List Entry → List Entry
entries_behind_sets limit w entries = entries_with_limit limit (sets_waiting w) ++ entries

-- the plan of sets that wait and then entries is the one made of these unit by unit
abbrev pub PlansUnitByUnit : Format → ℕ → WaitingSets → List Entry → Type 0
PlansUnitByUnit f limit w entries = AreWaitingSets f w →
    plan f (entries_behind_sets limit w entries) ≡ plan_with_waiting f w entries

-- so are the sets that are left
abbrev pub WaitsUnitByUnit : Format → ℕ → WaitingSets → List Entry → Type 0
WaitsUnitByUnit f limit w entries = AreWaitingSets f w →
    sets_left f (entries_behind_sets limit w entries) ≡ sets_waiting (waiting_after f w entries)

-- the packets of one unit as it is are within the limit of the call
abbrev pub OneUnitIsWithin : PacketizerState → ℕ → List ℕ → Type 0
OneUnitIsWithin s mtu unit = AreWithinLimit (packet_limit s.format s.max_packet_size mtu)
    (one_unit_packets s mtu unit)

-- a unit that fits no packet, and isn't dropped, has its fragments (RFC 6184, 5.8; RFC 7798, 4.4.3;
-- RFC 9328, 4.3.3)
abbrev pub FragmentsAreByPlace : Format → Type 0
FragmentsAreByPlace f = (n limit : ℕ) (unit : List ℕ) → fits_one_packet f limit unit ≡ false →
    is_dropped f limit unit ≡ false → f.header_len ≤ length unit → AreFragments f n limit unit

-- they are read back where packets can carry the unit
abbrev pub FragmentsAreRead : Format → Type 0
FragmentsAreRead f = (n limit : ℕ) (unit : List ℕ) → fits_one_packet f limit unit ≡ false →
    is_dropped f limit unit ≡ false → IsTrue (f.carries unit) → ReadsFragments f n limit unit

-- and they bear the marks of their places
abbrev pub FragmentsAreMarked : Format → Type 0
FragmentsAreMarked f = (n limit : ℕ) (unit : List ℕ) → fits_one_packet f limit unit ≡ false →
    is_dropped f limit unit ≡ false → f.header_len ≤ length unit → AreMarked f n limit unit

-- nothing of units at a limit is dropped for its size
abbrev pub KeepsAll : Format → ℕ → List (List ℕ) → Type 0
KeepsAll f limit units = NothingDropped f (entries_with_limit limit units)

-- a unit is a set that waited, or came with entries
abbrev pub CameOrWaited : PacketizerState → List Entry → List ℕ → Type 0
CameOrWaited s entries = Contains (sets_waiting s.waiting ++ map (λ e. e.unit) entries)

-- a call without effect may be left out, wherever it stands
abbrev pub MayLeaveOutCalls : PacketizerState → Type 0
MayLeaveOutCalls s = (before later : List Call) (call : Call) →
    has_no_effect s.format call ≡ true →
    HaveSameEffect s (before ++ call ∷ later) (before ++ later)
