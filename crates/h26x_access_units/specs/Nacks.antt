-- Missing numbers that a sender is asked for again, and when (NACK; RFC 4585, 6.2.1; ours).
use Rattle.std.specs.Prelude.{ℕ, ◌+◌, ◌-◌, ◌^◌, ◌<◌, ◌≤◌, ◌==◌, nat_lt, nat_le, Bool, ◌&&◌, if◌then◌else◌, List, [], ◌∷◌, map, Some}
use Rattle.std.specs.List.{filter}
use Rattle.h26x_core.specs.Sequence.{is_late, distance_ahead}
use Rattle.h26x_access_units.specs.declared.nacks.Nack.{Nack}
use Rattle.h26x_access_units.specs.declared.nacks.NackTimes.{NackTimes}
use Rattle.h26x_access_units.specs.Arrival.{ticks_from}

-- a number that was asked for so often, at this tick last
abbrev pub nack : ℕ → ℕ → ℕ → Nack
nack number at times = record { number = number; at = at; times = times }

-- one that is first told to be missing at this tick
abbrev pub fresh_nack : ℕ → ℕ → Nack
fresh_nack now number = nack number now 0

-- what is known of numbers, without those in front that are behind this one
abbrev pub from_number : ℕ → List Nack → List Nack
from_number number [] = []
from_number number (n ∷ known) =
    if is_late (Some number) n.number then from_number number known else n ∷ known

-- what is known of a number that stands first, if it is known
abbrev pub nack_of : ℕ → ℕ → List Nack → Nack
nack_of now number [] = fresh_nack now number
nack_of now number (n ∷ known) = if n.number == number then n else fresh_nack now number

-- what is known of the numbers that are missing now, by what was known of those before, both in order:
-- the others are forgotten
abbrev pub nacks_now : ℕ → List Nack → List ℕ → List Nack
nacks_now now known [] = []
nacks_now now known (number ∷ missing) = nack_of now number (from_number number known)
    ∷ nacks_now now (from_number number known) missing

-- what is known of a number, wherever it stands
abbrev pub nack_among : ℕ → ℕ → List Nack → Nack
nack_among now number [] = fresh_nack now number
nack_among now number (n ∷ known) =
    if n.number == number then n else nack_among now number known

-- numbers in order, each so far ahead of one at least, and less than half of the circle
abbrev pub AreNumbersInOrder : ℕ → ℕ → List ℕ → Type 0
AreNumbersInOrder from near [] = Unit {0}
AreNumbersInOrder from near (number ∷ numbers) = (number < 2 ^ 16)
    × (near ≤ distance_ahead from number) × (distance_ahead from number < 2 ^ 15)
    × AreNumbersInOrder from (distance_ahead from number + 1) numbers

-- when a number is asked for
abbrev pub nack_times_of : ℕ → ℕ → ℕ → NackTimes
nack_times_of first again most = record { first = first; again = again; most = most }

-- whether a number is to be asked for at this tick
abbrev pub is_nack_due : NackTimes → ℕ → Nack → Bool
is_nack_due times now n = nat_lt n.times times.most
    && nat_le (if n.times == 0 then times.first else times.again) (ticks_from n.at now)

-- the numbers that are
abbrev pub numbers_due : NackTimes → ℕ → List Nack → List ℕ
numbers_due times now known = map (λ n. n.number) (filter (is_nack_due times now) known)

-- once it was asked for at this tick
abbrev pub asked_at : ℕ → Nack → Nack
asked_at now n = nack n.number now (n.times + 1)

-- what is known once the first so many of those that are due were asked for
abbrev pub nacks_asked : NackTimes → ℕ → ℕ → List Nack → List Nack
nacks_asked times now room [] = []
nacks_asked times now room (n ∷ known) =
    if is_nack_due times now n && nat_lt 0 room
    then asked_at now n ∷ nacks_asked times now (room - 1) known
    else n ∷ nacks_asked times now room known
