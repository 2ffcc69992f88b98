-- What becomes of a packet, any whatever, where a run is open or none (ours).
use Rattle.std.specs.Prelude.{◌≡◌, ℕ, ◌^◌, nat_le, Bool, true, false, ◌&&◌, List, length, Option, None, Result, Ok, Err, ◌⊎◌, MatchBool}
use Rattle.std.specs.List.{list_any}
use Rattle.h26x_core.specs.declared.error.PacketError.{PacketError}
use Rattle.h26x_core.specs.declared.error.PacketError.TheVariants.{AvcUnitTooLong, OutOfMemory}
use Rattle.h26x_model.specs.Payload.Reading.{Reading, Fragment, Refused}
use Rattle.h26x_model.specs.Receive.Received.{reading_units}

-- a fragment that doesn't start, while no run is open: it takes no memory
abbrev pub is_startless : Option (List ℕ) → Reading → Bool
is_startless None (Fragment false end head don body) = true
is_startless run reading = false

-- a length that four bytes don't hold
abbrev pub is_too_long : List ℕ → Bool
is_too_long unit = nat_le (2 ^ 32) (length unit)

-- What becomes of a packet where this run is open: its refusal; in AVC form another one, where a
-- unit that it brings is too long; else it is accepted, or memory lacks, for which no clause can
-- name the cause.
abbrev pub IsReadingOutcome : Bool → Option (List ℕ) → Reading → Result (Unit {0}) PacketError → Type 0
IsReadingOutcome avc run (Refused error) outcome = outcome ≡ Err error
IsReadingOutcome avc run reading outcome =
    MatchBool (avc && list_any is_too_long (reading_units run reading))
    (outcome ≡ Err AvcUnitTooLong)
    ((outcome ≡ Ok tt) ⊎ (outcome ≡ Err OutOfMemory))
