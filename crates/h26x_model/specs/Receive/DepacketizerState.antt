-- A depacketizer of any codec: what packets bring where it has any run open, and what stands after
-- them.
use Rattle.std.specs.Prelude.{◌≡◌, ℕ, ◌+◌, Bool, false, List, [], ◌∷◌, ◌++◌, map, if◌then◌else◌, Option, Some, None, Result, Err, is_ok, ◌⊎◌}
use Rattle.std.specs.List.{list_any}
use Rattle.h26x_core.specs.declared.extra.CodecExtra.{CodecExtra}
use Rattle.h26x_core.specs.declared.error.PacketError.{PacketError}
use Rattle.h26x_core.specs.declared.error.PacketError.TheVariants.{OutOfMemory}
use Rattle.h26x_core.specs.ByteStream.{byte_stream}
use Rattle.h26x_core.specs.Word.{flag}
use Rattle.h26x_model.specs.Payload.Reading.{Reading}
use Rattle.h26x_model.specs.Payload.Format.{Format}
use Rattle.h26x_model.specs.Receive.Received.{run_after, reading_units}
use Rattle.h26x_model.specs.Payload.Extra.{extra_after}
use Rattle.h26x_model.specs.Receive.Outcome.{is_too_long, IsReadingOutcome}
use Rattle.h26x_model.specs.Carry.Loss.{keep}

-- the units that readings bring where this run is open
abbrev pub readings_units : Option (List ℕ) → List Reading → List (List ℕ)
readings_units run [] = []
readings_units run (reading ∷ readings) = reading_units run reading
    ++ readings_units (run_after run reading) readings

-- the run that is open after readings
abbrev pub run_after_readings : Option (List ℕ) → List Reading → Option (List ℕ)
run_after_readings run [] = run
run_after_readings run (reading ∷ readings) = run_after_readings (run_after run reading) readings

-- a depacketizer: its format, whether it writes AVC form, and the data of its open run
pub record DepacketizerState : Type 0 where
  pub format : Format
  pub is_avc : Bool
  pub run : Option (List ℕ)

-- the run as a list, if one is open
abbrev pub run_list : Option (List ℕ) → List (List ℕ)
run_list None = []
run_list (Some run) = run ∷ []

-- the setting as one byte: AVC form, or where packets may bear numbers whether they do, and 2 more
-- in AVC form
abbrev pub setting_byte : Format → Bool → ℕ
setting_byte f avc = if f.may_have_donl then flag f.has_donl 1 + flag avc 2 else flag avc 1

-- what later answers depend on: the setting, and the data of the open run if there is one
abbrev pub depacketizer_meaning : DepacketizerState → List (List ℕ)
depacketizer_meaning r = (setting_byte r.format r.is_avc ∷ []) ∷ run_list r.run

-- the units that packets bring to it
abbrev pub units_brought : DepacketizerState → List (List ℕ) → List (List ℕ)
units_brought r packets = readings_units r.run (map r.format.read packets)

-- what a depacketizer works on: itself, what was written, and what is told
pub record Depacketization : Type 0 where
  pub state : DepacketizerState
  pub out : List ℕ
  pub extra : CodecExtra

-- a depacketizer at work
abbrev pub depacketization : DepacketizerState → List ℕ → CodecExtra → Depacketization
depacketization r out extra = record { state = r; out = out; extra = extra }

-- what stands after packets that were accepted
abbrev pub after_packets : Depacketization → List (List ℕ) → Depacketization
after_packets w packets = record {
  state = record {
    format = w.state.format;
    is_avc = w.state.is_avc;
    run = run_after_readings w.state.run (map w.state.format.read packets);
  };
  out = w.out ++ byte_stream w.state.is_avc (units_brought w.state packets);
  extra = extra_after w.state.format w.extra (units_brought w.state packets);
}

-- what becomes of a packet: one outcome, and it is taken, or all is as it was
abbrev pub IsPacketOutcome : Depacketization → List ℕ → Result (Unit {0}) PacketError → Type 0
IsPacketOutcome w packet outcome = IsReadingOutcome w.state.is_avc w.state.run
    (w.state.format.read packet) outcome

-- why packets were not taken to their end: memory lacks, or the next one is refused
abbrev pub IsRefusalCause : Depacketization → List (List ℕ) → PacketError → Type 0
IsRefusalCause w left error =
    (error ≡ OutOfMemory)
    ⊎ ((packet : List ℕ) × (later : List (List ℕ)) × (left ≡ packet ∷ later)
    × IsPacketOutcome w packet (Err error))

-- each unit's length fits the four bytes of an AVC length
abbrev pub HaveAvcLengths : List (List ℕ) → Type 0
HaveAvcLengths units = list_any is_too_long units ≡ false

-- the packets that were accepted, by their outcomes
abbrev pub accepted_packets : List (List ℕ) → List (Result (Unit {0}) PacketError) → List (List ℕ)
accepted_packets packets outcomes = keep (map is_ok outcomes) packets

-- one outcome for each packet, by what those accepted before it left; these were accepted before
-- the first
abbrev pub HaveOutcomes : Depacketization → List (List ℕ) → List (List ℕ) →
    List (Result (Unit {0}) PacketError) → Type 0
HaveOutcomes w before [] [] = Unit {0}
HaveOutcomes w before (packet ∷ packets) (outcome ∷ outcomes) =
    IsPacketOutcome (after_packets w before) packet outcome
    × HaveOutcomes w (if is_ok outcome then before ++ packet ∷ [] else before) packets outcomes
HaveOutcomes w before packets outcomes = ⊥

-- What a depacketizer has done with packets, any whatever, refused ones passed over: each has its
-- outcome, and the accepted ones were taken.
pub record AreAllTaken (w : Depacketization) (packets : List (List ℕ))
    (outcomes : List (Result (Unit {0}) PacketError)) (new : Option Depacketization) : Type 0 where
  pub each : HaveOutcomes w [] packets outcomes
  pub taken : new ≡ Some (after_packets w (accepted_packets packets outcomes))

-- what was written grew to this by the text of these units and by nothing else, and the extra is the
-- one after them
abbrev pub AreWritten : Depacketization → List (List ℕ) → List ℕ → CodecExtra → Type 0
AreWritten w units out told = (out ≡ w.out ++ byte_stream w.state.is_avc units)
    × (told ≡ extra_after w.state.format w.extra units)
