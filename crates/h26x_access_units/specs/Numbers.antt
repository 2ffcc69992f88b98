-- The sequence numbers of the packets of access units (RFC 3550, 5.1; ours).
use Rattle.std.specs.Prelude.{ℕ, ◌+◌, ◌-◌, ◌^◌, ◌==◌, min, Bool, true, false, ◌&&◌, if◌then◌else◌, List, [], ◌∷◌, Option, Some, None, Result, Ok, Err}
use Rattle.std.specs.Option.{option_map}
use Rattle.h26x_core.specs.declared.error.PacketError.{PacketError}
use Rattle.h26x_receiver.specs.declared.received.Received.{Received}
use Rattle.h26x_receiver.specs.declared.received.Received.TheVariants.{Gap, TooLong, Late}
use Rattle.h26x_receiver.specs.Sequenced.{skip_answer}
use Rattle.h26x_reorder.specs.Rtp.{RtpBody}
use Rattle.h26x_access_units.specs.declared.numbers.AccessUnitNumbers.{AccessUnitNumbers}
use Rattle.h26x_access_units.specs.declared.numbers.NumbersSoFar.{NumbersSoFar}

-- how many numbers an answer tells to be missing
abbrev pub missing_told : Received → ℕ
missing_told (Gap n) = n
missing_told (TooLong n) = n
missing_told answer = 0

-- how many are missing up to a packet that was refused, its own with them, by what is told of those
-- before it: none where it is late
abbrev pub missing_with : Received → ℕ
missing_with (Late n) = 0
missing_with answer = missing_told answer + 1

-- so where a number is expected
abbrev pub missing_up_to : Option ℕ → ℕ → ℕ
missing_up_to expected number = missing_with (skip_answer expected number)

-- before any packet
abbrev pub fresh_numbers : NumbersSoFar
fresh_numbers = record {
  unit = None;
  marked = None;
  has_begun = false;
  has_taken = false;
  skipped_gap = 0;
  carried = 0;
  ended = None;
  ended_by_marker = None;
}

-- as many more missing, counted to 2^32 - 1
abbrev pub missing_sum : ℕ → ℕ → ℕ
missing_sum count more = min (count + more) (2 ^ 32 - 1)

-- whether it is this timestamp
abbrev pub is_timestamp : Option ℕ → ℕ → Bool
is_timestamp None timestamp = false
is_timestamp (Some marked) timestamp = marked == timestamp

-- the numbers of an access unit of which a packet is the first: it follows the one before where a
-- packet was taken before it, and none is missing between; with it as many are told that were
-- missing of others; it is counted where a packet was taken since the beginning
abbrev pub begun_numbers : Option ℕ → Bool → Bool → ℕ → ℕ × RtpBody → ℕ → AccessUnitNumbers
begun_numbers marked has_begun has_taken carried p missing = record {
  timestamp = p.1.timestamp;
  first = p.0;
  last = p.0;
  missing = missing_sum missing carried;
  continues = is_timestamp marked p.1.timestamp;
  follows = has_begun && (missing == 0);
  is_counted = has_taken;
}

-- with a packet more
abbrev pub numbers_to : AccessUnitNumbers → ℕ × RtpBody → ℕ → AccessUnitNumbers
numbers_to unit p missing = record unit {
  last = p.0;
  missing = missing_sum unit.missing missing;
}

-- the numbers of a packet's access unit: the one that is open, where it has its timestamp
abbrev pub numbers_with : Option AccessUnitNumbers → Option ℕ → Bool → Bool → ℕ → ℕ × RtpBody →
    ℕ → AccessUnitNumbers
numbers_with None marked has_begun has_taken carried p missing =
    begun_numbers marked has_begun has_taken carried p missing
numbers_with (Some unit) marked has_begun has_taken carried p missing =
    if unit.timestamp == p.1.timestamp then numbers_to unit p missing
    else begun_numbers marked has_begun has_taken carried p missing

-- so of what is known so far
abbrev pub unit_numbers : NumbersSoFar → ℕ × RtpBody → ℕ → AccessUnitNumbers
unit_numbers n p missing =
    numbers_with n.unit n.marked n.has_begun n.has_taken n.carried p missing

-- how many are still to be told with a later one: none once one begins
abbrev pub carried_behind : Option AccessUnitNumbers → ℕ → ℕ → ℕ
carried_behind None carried timestamp = 0
carried_behind (Some unit) carried timestamp = if unit.timestamp == timestamp then carried else 0

-- the numbers of the access unit that a timestamp ends, if it is another one
abbrev pub numbers_ended : Option AccessUnitNumbers → ℕ → Option AccessUnitNumbers
numbers_ended None timestamp = None
numbers_ended (Some unit) timestamp =
    if unit.timestamp == timestamp then None else Some unit

-- after a number that was skipped or refused, up to which so many are missing
abbrev pub after_gap : NumbersSoFar → ℕ → NumbersSoFar
after_gap n missing = record n { skipped_gap = missing_sum n.skipped_gap missing }

-- after a packet, before which so many are missing
abbrev pub after_packet : NumbersSoFar → ℕ × RtpBody → ℕ → NumbersSoFar
after_packet n p missing = record {
  unit = if p.1.marker then None
      else Some (unit_numbers n p (missing_sum n.skipped_gap missing));
  marked = if p.1.marker then Some p.1.timestamp else None;
  has_begun = true;
  has_taken = true;
  skipped_gap = 0;
  carried = carried_behind n.unit n.carried p.1.timestamp;
  ended = numbers_ended n.unit p.1.timestamp;
  ended_by_marker = if p.1.marker
      then Some (unit_numbers n p (missing_sum n.skipped_gap missing)) else None;
}

-- whether a packet bears nothing of the stream
abbrev pub bears_nothing : List ℕ → Bool
bears_nothing [] = true
bears_nothing (byte ∷ bytes) = false

-- after a packet that was due and has a payload, by what was answered
abbrev pub numbers_taken : NumbersSoFar → ℕ × RtpBody → Received → NumbersSoFar
numbers_taken n p (Late k) = n
numbers_taken n p answer = after_packet n p (missing_told answer)

-- after any that was due, where a number was expected; one that was refused is missing
abbrev pub numbers_after : Option ℕ → NumbersSoFar → ℕ × RtpBody →
    Result Received PacketError → NumbersSoFar
numbers_after expected n p (Ok answer) =
    if bears_nothing p.1.payload then after_gap n (missing_told answer)
    else numbers_taken n p answer
numbers_after expected n p (Err error) = after_gap n (missing_up_to expected p.0)

-- after the end, which ends the access unit that is open
abbrev pub after_last : NumbersSoFar → NumbersSoFar
after_last n = record fresh_numbers { ended = n.unit }

-- once the access unit that is open ended behind numbers that are missing, so many: what begins then
-- follows none
abbrev pub after_missing : NumbersSoFar → ℕ → NumbersSoFar
after_missing n missing = record n {
  unit = None;
  marked = None;
  has_begun = false;
  skipped_gap = missing_sum n.skipped_gap missing;
  ended = n.unit;
}

-- once the access unit that is open ended by itself, as by a marker
abbrev pub numbers_closed : NumbersSoFar → NumbersSoFar
numbers_closed n = record n {
  unit = None;
  marked = option_map (λ unit. unit.timestamp) n.unit;
  ended = n.unit;
}

-- where the access unit that begins has the timestamp of the one before, by its units: it doesn't go on
-- with that
abbrev pub numbers_still : Bool → NumbersSoFar → NumbersSoFar
numbers_still stands_still n = if stands_still then record n { marked = None } else n

-- with as many more missing before the access unit that is given out next: the one that ended by its
-- marker, or the one that is open, or the one that the next packet begins
abbrev pub numbers_carrying_to : NumbersSoFar → Option AccessUnitNumbers → Option AccessUnitNumbers →
    ℕ → NumbersSoFar
numbers_carrying_to n (Some ended) unit missing = record n {
  ended_by_marker = Some (record ended { missing = missing_sum ended.missing missing });
}
numbers_carrying_to n None (Some unit) missing = record n {
  unit = Some (record unit { missing = missing_sum unit.missing missing });
}
numbers_carrying_to n None None missing = record n { carried = missing_sum n.carried missing }

-- so of what is known so far
abbrev pub numbers_carrying : NumbersSoFar → ℕ → NumbersSoFar
numbers_carrying n missing = numbers_carrying_to n n.ended_by_marker n.unit missing

-- once the number of the first packet is told
abbrev pub begun_numbers_at : NumbersSoFar → NumbersSoFar
begun_numbers_at n = record n { has_begun = true }

-- those of an access unit of which no packet came
abbrev pub numbers_of_none : AccessUnitNumbers
numbers_of_none = record {
  timestamp = 0;
  first = 0;
  last = 0;
  missing = 0;
  continues = false;
  follows = false;
  is_counted = false;
}

-- those of the first access unit that ended
abbrev pub first_of_ended : Option AccessUnitNumbers → Option AccessUnitNumbers → AccessUnitNumbers
first_of_ended (Some numbers) other = numbers
first_of_ended None (Some numbers) = numbers
first_of_ended None None = numbers_of_none

-- so of what is known so far
abbrev pub first_ended : NumbersSoFar → AccessUnitNumbers
first_ended n = first_of_ended n.ended n.ended_by_marker

-- once it is given out
abbrev pub without_ended_of : NumbersSoFar → Option AccessUnitNumbers → NumbersSoFar
without_ended_of n (Some numbers) = record n { ended = None }
without_ended_of n None = record n { ended_by_marker = None }

-- so of what is known so far
abbrev pub without_first_ended : NumbersSoFar → NumbersSoFar
without_first_ended n = without_ended_of n n.ended
