-- What a receiver counts (ours).
use Rattle.std.specs.Prelude.{ℕ, ◌+◌, ◌-◌, ◌^◌, min, Bool, if◌then◌else◌, Option, Result, Ok, Err}
use Rattle.h26x_core.specs.declared.error.PacketError.{PacketError}
use Rattle.h26x_receiver.specs.declared.received.Received.{Received}
use Rattle.h26x_receiver.specs.declared.received.Received.TheVariants.{TooLong, Late}
use Rattle.h26x_reorder.specs.Rtp.{RtpBody}
use Rattle.h26x_access_units.specs.declared.counts.Counts.{Counts}
use Rattle.h26x_access_units.specs.declared.pushed.Pushed.{Pushed}
use Rattle.h26x_access_units.specs.declared.pushed.Pushed.TheVariants as pushes
use Rattle.h26x_access_units.specs.declared.pushed.NotPushedReason.{NotPushedReason}
use Rattle.h26x_access_units.specs.declared.pushed.NotPushedReason.TheVariants as reasons
use Rattle.h26x_access_units.specs.Numbers.{missing_told, missing_up_to, bears_nothing}

-- nothing was counted
abbrev pub no_counts : Counts
no_counts = record {
  taken = 0;
  lost = 0;
  late = 0;
  twice = 0;
  stray = 0;
  refused = 0;
  skipped = 0;
  no_unit = 0;
  anew = 0;
  units = 0;
  whole = 0;
  units_given_up = 0;
  texts_given_up = 0;
  still = 0;
  unbelieved = 0;
}

-- so many more, to 2^64 - 1
abbrev pub count_up : ℕ → ℕ → ℕ
count_up count more = min (count + more) (2 ^ 64 - 1)

-- a packet that was given to a receiver
abbrev pub counted_push : Counts → Pushed → Counts
counted_push c (pushes.Late n) = record c { late = count_up c.late 1 }
counted_push c pushes.Twice = record c { twice = count_up c.twice 1 }
counted_push c pushes.Stray = record c { stray = count_up c.stray 1 }
counted_push c pushes.Anew = record c { anew = count_up c.anew 1 }
counted_push c answer = c

-- one that came back with this reason
abbrev pub counted_reason : Counts → NotPushedReason → Counts
counted_reason c (reasons.Late n) = record c { late = count_up c.late 1 }
counted_reason c reasons.Twice = record c { twice = count_up c.twice 1 }
counted_reason c reason = c

-- packets of old numbers that were dropped, or numbers that are missing before a packet
abbrev pub counted_dropped : Counts → ℕ → Counts
counted_dropped c dropped = record c { lost = count_up c.lost dropped }

-- whether an answer says that an open NAL unit was given up
abbrev pub given_up : Received → ℕ
given_up (TooLong n) = 1
given_up answer = 0

-- a packet that was taken, by what was answered, and by whether a text was given up
abbrev pub counted_taken : Counts → Received → Bool → Counts
counted_taken c answer text = record c {
  taken = count_up c.taken 1;
  lost = count_up c.lost (missing_told answer);
  units_given_up = count_up c.units_given_up (given_up answer);
  texts_given_up = count_up c.texts_given_up (if text then 1 else 0);
}

-- one that was refused: so many numbers are missing up to it, its own with them
abbrev pub counted_refused : Counts → ℕ → Counts
counted_refused c missing = record c {
  refused = count_up c.refused 1;
  lost = count_up c.lost missing;
}

-- one that was due and has a payload
abbrev pub counted_answer : Counts → Received → Bool → Counts
counted_answer c (Late n) text = record c { late = count_up c.late 1 }
counted_answer c answer text = counted_taken c answer text

-- a number that bears nothing
abbrev pub counted_skip : Counts → Received → Counts
counted_skip c (Late n) = record c { late = count_up c.late 1 }
counted_skip c answer = record c {
  skipped = count_up c.skipped 1;
  lost = count_up c.lost (missing_told answer);
}

-- one that is refused and bears nothing to be written
abbrev pub counted_no_unit : Counts → Received → Counts
counted_no_unit c (Late n) = record c { late = count_up c.late 1 }
counted_no_unit c answer = record c {
  no_unit = count_up c.no_unit 1;
  lost = count_up c.lost (missing_told answer);
}

-- whether an access unit began at the timestamp of the one before by its units, and whether a marker
-- isn't believed
abbrev pub counted_framing : Counts → Bool → Bool → Counts
counted_framing c still unbelieved = record c {
  still = count_up c.still (if still then 1 else 0);
  unbelieved = count_up c.unbelieved (if unbelieved then 1 else 0);
}

-- any packet that was due, where a number was expected
abbrev pub counted_due : Option ℕ → Counts → ℕ × RtpBody → Result Received PacketError → Bool →
    Counts
counted_due expected c p (Ok answer) text =
    if bears_nothing p.1.payload then counted_skip c answer else counted_answer c answer text
counted_due expected c p (Err error) text = counted_refused c (missing_up_to expected p.0)

-- an access unit that is given out
abbrev pub counted_unit : Counts → Bool → Counts
counted_unit c is_whole = record c {
  units = count_up c.units 1;
  whole = count_up c.whole (if is_whole then 1 else 0);
}
