-- The open run and its fragments as contracts see them.
use Rattle.std.specs.Prelude.{◌≡◌, ℕ, ◌+◌, ◌-◌, ◌*◌, ◌^◌, ◌&&◌, ◌++◌, nat_le, min, max, Bool, false, if◌then◌else◌, List, [], length, take, take_while, Option, Some, None, Result, Ok, Err, MatchBool, ◌⊎◌}
use Rattle.std.specs.List.{sum_by, list_any}
use Rattle.std.specs.Option.{option_map}
use Rattle.h26x_core.specs.ByteStream.{unit_prefix, byte_stream}
use Rattle.h26x_core.specs.Pieces.{pieces_of}
use Rattle.h26x_core.specs.declared.extra.CodecExtra.{CodecExtra}
use Rattle.h26x_core.specs.declared.error.PacketError.{PacketError}
use Rattle.h26x_core.specs.declared.error.PacketError.TheVariants.{AvcUnitTooLong, OutOfMemory}
use Rattle.h26x_model.specs.Payload.Format.{Format}
use Rattle.h26x_model.specs.Payload.Extra.{extra_after}
use Rattle.h26x_model.specs.Receive.Outcome.{is_too_long}
use Rattle.h26x_model.specs.Receive.Received.{reading_units}
use Rattle.h26x_model.specs.Payload.Reading.{Reading, Fragment}
use Rattle.h26x_depacketizer.specs.declared.reassembly.Fragment as declared

-- the run of these bytes, if it is open
abbrev pub run_if_open : Bool → List ℕ → Option (List ℕ)
run_if_open is_open bytes = if is_open then Some bytes else None

-- the data of a run, none where none is open
abbrev pub run_bytes : Option (List ℕ) → List ℕ
run_bytes None = []
run_bytes (Some run) = run

-- how many bytes of memory a run of so many bytes may have: twice as many, or 2^20
abbrev pub run_memory : ℕ → ℕ
run_memory len = max 1048576 (2 * len)

-- a unit's header: as many of these bytes as the format's headers have
abbrev pub header_bytes : Format → List ℕ → List ℕ
header_bytes f bytes = take f.header_len bytes

-- a fragment as it is read; its number counts for nothing here
abbrev pub fragment_reading : Format → declared.Fragment → Reading
fragment_reading f it = Fragment it.start it.end (header_bytes f it.head) None it.body.now

-- what becomes of a write: refused where a unit has no length of four bytes, else done, or memory
-- lacks
abbrev pub IsWriteOutcome : Bool → Result (Unit {0}) PacketError → Type 0
IsWriteOutcome too_long outcome = MatchBool too_long (outcome ≡ Err AvcUnitTooLong)
    ((outcome ≡ Ok tt) ⊎ (outcome ≡ Err OutOfMemory))

-- the text of a unit: it stands behind a start code, or in AVC form behind its length
abbrev pub unit_text : Bool → List ℕ → List ℕ
unit_text is_avc unit = unit_prefix is_avc unit ++ unit

-- the text of the units that a reading brings where this run is open
abbrev pub reading_text : Bool → Option (List ℕ) → Reading → List ℕ
reading_text is_avc run reading = byte_stream is_avc (reading_units run reading)

-- what is told once they were written
abbrev pub extra_with : Format → CodecExtra → Option (List ℕ) → Reading → CodecExtra
extra_with f extra run reading = extra_after f extra (reading_units run reading)

-- whether one of them is too long for a length of four bytes
abbrev pub brings_long_unit : Option (List ℕ) → Reading → Bool
brings_long_unit run reading = list_any is_too_long (reading_units run reading)

-- what becomes of a packet with this reading, which is no refusal: in AVC form it is refused where
-- it brings such a unit
abbrev pub IsTakeOutcome : Bool → Option (List ℕ) → Reading → Result (Unit {0}) PacketError → Type 0
IsTakeOutcome is_avc run reading outcome =
    IsWriteOutcome (is_avc && brings_long_unit run reading) outcome

-- what holds of each run of this length, of none where there is no length
abbrev pub ForEachRun : Option ℕ → (Option (List ℕ) → Type 0) → Type 0
ForEachRun run_len P = (run : Option (List ℕ)) → run_len ≡ option_map length run → P run

-- it tells whether a reading brings a unit that is too long, by the length of the open run
abbrev pub TellsLongUnit : Option ℕ → Reading → Bool → Type 0
TellsLongUnit run_len reading tells = ForEachRun run_len
    (λ run. tells ≡ brings_long_unit run reading)

-- how many bytes units take where they are written
abbrev pub written_len : List (List ℕ) → ℕ
written_len units = sum_by (λ unit. 4 + length unit) units

-- the pieces of bytes, each behind its length, before the first that isn't whole or that has no
-- whole header
abbrev pub headed_pieces : Format → List ℕ → List (List ℕ)
headed_pieces f bytes = take_while (λ unit. nat_le f.header_len (length unit))
    (pieces_of bytes).whole

-- so many bytes units take where they are written, a usize at most; none is too long for a length
-- of four bytes
abbrev pub AreOfSize : List (List ℕ) → ℕ → Type 0
AreOfSize units size = (list_any is_too_long units ≡ false)
    × (size ≡ min (written_len units) (2 ^ 64 - 1))
