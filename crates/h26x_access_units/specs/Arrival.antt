-- When packets came that wait, in the caller's ticks, which go round at 2^32 (ours).
use Rattle.std.specs.Prelude.{◌≡◌, ℕ, ◌+◌, ◌-◌, ◌%◌, ◌^◌, ◌<◌, ◌≤◌, ◌==◌, nat_le, Bool, true, false, not, if◌then◌else◌, List, [], ◌∷◌, ◌++◌, Option, Some, None}
use Rattle.std.specs.List.{AllByRecursion, filter}
use Rattle.std.specs.Option.{unwrap_or}
use Rattle.h26x_core.specs.Sequence.{distance_ahead, is_late, next_sequence_number}
use Rattle.h26x_reorder.specs.Rtp.{RtpBody}
use Rattle.h26x_reorder.specs.ReorderBuffer.{is_number_held, AreHeldInOrder}
use Rattle.h26x_access_units.specs.declared.arrival.Arrival.{Arrival}

-- a packet with this number came at this tick
abbrev pub arrival_of : ℕ → ℕ → Arrival
arrival_of number at = record { number = number; at = at }

-- arrivals without the first of this number
abbrev pub without_number : ℕ → List Arrival → List Arrival
without_number number [] = []
without_number number (a ∷ arrivals) =
    if a.number == number then arrivals else a ∷ without_number number arrivals

-- those of packets that wait: their numbers are not behind the one that is due
abbrev pub not_passed : Option ℕ → List Arrival → List Arrival
not_passed due arrivals = filter (λ a. not (is_late due a.number)) arrivals

-- whether the first is of a packet that went
abbrev pub is_first_passed : Option ℕ → List Arrival → Bool
is_first_passed due [] = false
is_first_passed due (a ∷ arrivals) = is_late due a.number

-- how many ticks it is from one to another
abbrev pub ticks_from : ℕ → ℕ → ℕ
ticks_from at now = (now + (2 ^ 32 - at)) % 2 ^ 32

-- when the packet that came first will have waited for so long; never where no time is set
abbrev pub deadline_of : ℕ → List Arrival → Option ℕ
deadline_of max_wait [] = None
deadline_of max_wait (a ∷ arrivals) =
    if max_wait == 2 ^ 32 - 1 then None else Some ((a.at + max_wait) % 2 ^ 32)

-- whether it has
abbrev pub has_waited : ℕ → ℕ → List Arrival → Bool
has_waited max_wait now [] = false
has_waited max_wait now (a ∷ arrivals) =
    if max_wait == 2 ^ 32 - 1 then false else nat_le max_wait (ticks_from a.at now)

-- of an arrival, where this number is due: its packet is held, or went since that number was due
pub record IsArrivalKept (from due : ℕ) (held : List (ℕ × RtpBody)) (a : Arrival) : Type 0 where
  pub small : a.number < 2 ^ 16
  pub waits : is_late (Some due) a.number ≡ false → is_number_held a.number held ≡ true
  pub passed : is_late (Some due) a.number ≡ true →
      distance_ahead a.number due ≤ distance_ahead from due

-- each arrival is of another number
abbrev pub HaveOwnNumbers : List Arrival → Type 0
HaveOwnNumbers [] = Unit {0}
HaveOwnNumbers (a ∷ arrivals) = AllByRecursion (λ b. b.number ≡ a.number → ⊥) arrivals
    × HaveOwnNumbers arrivals

-- so of arrivals that are kept, some of packets that went since that number was due, which was less
-- than half of the circle ago
pub record AreArrivalsKept (from due : ℕ) (held : List (ℕ × RtpBody)) (arrivals : List Arrival) : Type
    0 where
  pub small : from < 2 ^ 16
  pub span : distance_ahead from due ≤ 2 ^ 15
  pub each : AllByRecursion (IsArrivalKept from due held) arrivals
  pub own : HaveOwnNumbers arrivals

-- none before a packet came
abbrev pub AreArrivals : ℕ → Option ℕ → List (ℕ × RtpBody) → List Arrival → Type 0
AreArrivals from None held arrivals = arrivals ≡ []
AreArrivals from (Some due) held arrivals = AreArrivalsKept from due held arrivals

-- since when packets may have gone whose arrivals stand, once one more comes: where none stands, since
-- the number that is due then
abbrev pub from_at : ℕ → Option ℕ → List Arrival → ℕ
from_at from due [] = unwrap_or due 0
from_at from due (a ∷ arrivals) = from

-- a list is the end of another one
abbrev pub IsEndOf : List Arrival → List Arrival → Type 0
IsEndOf whole end = (front : List Arrival) × (whole ≡ front ++ end)

-- the first packet by number may go: since this number was due less than half of the circle will have
-- gone
pub record IsRoomMade (from due number : ℕ) (old : List Arrival) (since : ℕ) (new : List Arrival) :
    Type 0 where
  pub room : distance_ahead since due + distance_ahead due number + 1 ≤ 2 ^ 15
  pub waits : not_passed (Some due) new ≡ not_passed (Some due) old
  pub kept : (held : List (ℕ × RtpBody)) → AreArrivalsKept from due held old →
      AreArrivalsKept since due held new

-- The first packet by number goes, and the number behind it is due: its arrival waits no more, and
-- the first one is of a packet that waits.
pub record IsLetGo (from due number : ℕ) (old : List Arrival) (since : ℕ) (new : List Arrival) : Type 0
  where
    pub first : is_first_passed (Some (next_sequence_number number)) new ≡ false
    pub waits : (body : RtpBody) (held : List (ℕ × RtpBody)) →
        AreHeldInOrder due 0 ((number, body) ∷ held) →
        AreArrivalsKept from due ((number, body) ∷ held) old →
        not_passed (Some (next_sequence_number number)) new
        ≡ without_number number (not_passed (Some due) old)
    pub kept : (body : RtpBody) (held : List (ℕ × RtpBody)) →
        AreHeldInOrder due 0 ((number, body) ∷ held) →
        AreArrivalsKept from due ((number, body) ∷ held) old →
        AreArrivalsKept since (next_sequence_number number) held new
