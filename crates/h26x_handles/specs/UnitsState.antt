-- A receiver of access units behind a handle, and the access unit that had no room where it was to be
-- written (ours).
use Rattle.std.specs.Prelude.{◌≡◌, ◌⊎◌, ℕ, ◌^◌, ◌==◌, ◌||◌, ◌&&◌, nat_le, nat_lt, Bool, true, if◌then◌else◌, List, [], length, take, Option, Some, None, is_some, Result, Ok, Err, MatchOption}
use Rattle.h26x_access_units.specs.declared.config.AccessUnitConfig.{AccessUnitConfig}
use Rattle.h26x_access_units.specs.declared.pushed.Pushed.{Pushed}
use Rattle.h26x_access_units.specs.declared.pushed.Pushed.TheVariants as pushes
use Rattle.h26x_access_units.specs.Arrival.{deadline_of}
use Rattle.h26x_access_units.specs.JitterBuffer.{may_tell_first, longest_wait, awaited}
use Rattle.h26x_access_units.specs.Missing.{missing_numbers}
use Rattle.h26x_access_units.specs.declared.nacks.Nack.{Nack}
use Rattle.h26x_access_units.specs.declared.nacks.NackTimes.{NackTimes}
use Rattle.h26x_access_units.specs.Nacks.{nacks_now, numbers_due, nacks_asked}
use Rattle.h26x_access_units.specs.ReceivedAccessUnit.{ReceivedAccessUnitValue}
use Rattle.h26x_access_units.specs.Reception.{Reception, open_units, fresh_reception, begun_reception, reception_answer, restarted, with_settings, IsPushed, IsNext, IsDrainedInPart}
use Rattle.h26x_assembler.specs.AccessUnit.{OpenUnits}
use Rattle.h26x_codec.specs.Codec.{codec_format}
use Rattle.h26x_codec.specs.declared.codec.Codec.{Codec}
use Rattle.h26x_reorder.specs.Rtp.{RtpBody}
use Rattle.h26x_codes.specs.Codes.{codec_or_code, extra_number, ok, no_room, nothing_yet, out_of_range}
use Rattle.h26x_codes.specs.Copies.{with_front}
use Rattle.h26x_handles.specs.declared.access_units.NextAnswer.{NextAnswer}
use Rattle.h26x_handles.specs.declared.access_units.NextAnswer.TheVariants as answers
use Rattle.h26x_handles.specs.declared.access_units.UnitTold.{UnitTold}

-- what it is to contracts: its codec, its receiver, the access unit that had no room, until it is given
-- out, and which missing numbers were asked for
pub record UnitsState : Type 0 where
  pub codec : Codec
  pub reception : Reception
  pub left : Option ReceivedAccessUnitValue
  pub nacks : List Nack

-- these four
abbrev pub units_state : Codec → Reception → Option ReceivedAccessUnitValue → List Nack → UnitsState
units_state codec reception left nacks =
    record { codec = codec; reception = reception; left = left; nacks = nacks }

-- the codec of one that is to be made, or the code that says why there is none: as of a depacketizer,
-- and a window is of 1 to 2^14 places
abbrev pub units_codec_or_code : ℕ → Bool → ℕ → Result Codec ℕ
units_codec_or_code number has_donl window = elim (codec_or_code number has_donl) [
  | Err code ↦ Err code
  | Ok codec ↦ if window == 0 || nat_lt (2 ^ 14) window then Err out_of_range else Ok codec
]

-- whether a window is of 1 to 2^14 places
abbrev pub is_window : ℕ → Bool
is_window window = nat_lt 0 window && nat_le window (2 ^ 14)

-- before any packet came
abbrev pub fresh_access_units : Codec → Bool → Bool → AccessUnitConfig → UnitsState
fresh_access_units codec has_donl is_avc config = record {
  codec = codec;
  reception = fresh_reception config (record {
    format = codec_format codec has_donl;
    is_avc = is_avc;
    run = None;
  });
  left = None;
  nacks = [];
}

-- the same with another state of its receiver
abbrev pub units_with_reception : Reception → UnitsState → UnitsState
units_with_reception reception it = record it { reception = reception }

-- the same with other settings from now on, where the window is one
abbrev pub units_with_settings : AccessUnitConfig → UnitsState → UnitsState
units_with_settings config it =
    if is_window config.window then units_with_reception (with_settings config it.reception) it else it

-- what is answered for a packet
abbrev pub units_push_answer : UnitsState → ℕ × RtpBody → Pushed
units_push_answer it p = reception_answer it.reception p

-- A packet came, at this tick: its receiver waits with it, or took it.
pub record IsUnitsPushed (now : ℕ) (p : ℕ × RtpBody) (it new : UnitsState) : Type 0 where
  pub pushed : IsPushed now it.reception p (units_push_answer it p) new.reception
  pub stands : new ≡ record it { reception = new.reception }

-- the numbers of what became of a packet: which of the seven it is, and how far it is behind
abbrev pub pushed_numbers : Pushed → ℕ × ℕ
pushed_numbers pushes.Held = (0, 0)
pushed_numbers (pushes.Late behind) = (1, behind)
pushed_numbers pushes.Twice = (2, 0)
pushed_numbers pushes.Full = (3, 0)
pushed_numbers pushes.Stray = (4, 0)
pushed_numbers pushes.Anew = (5, 0)
pushed_numbers pushes.Jumped = (6, 0)

-- what is told of an access unit
abbrev pub unit_told : ReceivedAccessUnitValue → UnitTold
unit_told unit = record {
  len = length unit.bytes;
  timestamp = unit.timestamp;
  missing = unit.missing;
  first = unit.first;
  last = unit.last;
  extra = extra_number unit.extra;
  is_whole = unit.is_whole;
  is_clean = unit.is_clean;
  is_disposable = unit.is_disposable;
  continues = unit.continues;
}

-- what is answered where this access unit, or none, is the next: whether a buffer has room for it
abbrev pub next_answer : Option ReceivedAccessUnitValue → List ℕ → NextAnswer
next_answer None to = answers.NothingYet
next_answer (Some unit) to = if nat_le (length unit.bytes) (length to)
    then answers.Written (unit_told unit) else answers.NoRoom (unit_told unit)

-- that buffer then
abbrev pub buffer_with_unit : Option ReceivedAccessUnitValue → List ℕ → List ℕ
buffer_with_unit None to = to
buffer_with_unit (Some unit) to = with_front unit.bytes to

-- what has no room there
abbrev pub unit_without_room : Option ReceivedAccessUnitValue → List ℕ →
    Option ReceivedAccessUnitValue
unit_without_room None to = None
unit_without_room (Some unit) to =
    if nat_le (length unit.bytes) (length to) then None else Some unit

-- an access unit, or none, is the next: the one that had no room before, or what the receiver gives out
abbrev pub IsNextGiven : ℕ → UnitsState → Reception → Option ReceivedAccessUnitValue → Type 0
IsNextGiven now it reception unit = MatchOption it.left (IsNext now it.reception reception unit)
    (λ kept. (unit ≡ Some kept) × (reception ≡ it.reception))

-- The next access unit goes to a buffer where it has room there, and else stays for the next call.
pub record IsUnitGiven (now : ℕ) (it new : UnitsState) (to new_to : List ℕ)
    (answer : NextAnswer) : Type 0 where
  pub unit : Option ReceivedAccessUnitValue
  pub is_next : IsNextGiven now it new.reception unit
  pub stands : new ≡ record it { reception = new.reception; left = unit_without_room unit to }
  pub put : new_to ≡ buffer_with_unit unit to
  pub answered : answer ≡ next_answer unit to

-- Without memory nothing changed but that access units without bytes were passed over, or packets were
-- taken that were due, none of them lost; and no access unit waits for room, since that one wants no
-- memory.
pub record IsOutOfMemory (now : ℕ) (it new : UnitsState) : Type 0 where
  pub none : it.left ≡ None
  pub stands : new ≡ units_with_reception new.reception it
  pub taken : IsDrainedInPart now it.reception new.reception

-- the code of an answer, and what is told of the access unit, if one is
abbrev pub next_numbers : NextAnswer → UnitTold → ℕ × UnitTold
next_numbers answers.NothingYet told = (nothing_yet, told)
next_numbers (answers.NoRoom unit) told = (no_room, unit)
next_numbers (answers.Written unit) told = (ok, unit)

-- when it is to be asked again at the latest, if packets wait
abbrev pub units_deadline : UnitsState → Option ℕ
units_deadline it =
    deadline_of (longest_wait it.reception.waiting) it.reception.waiting.arrivals

-- the access unit that is open, as far as it came, where none that ended waits to be given out
abbrev pub units_open : UnitsState → Option OpenUnits
units_open it = if is_some it.left then None else open_units it.reception

-- the numbers that are missing before packets that wait
abbrev pub units_missing : UnitsState → List ℕ
units_missing it =
    missing_numbers (awaited it.reception.waiting) it.reception.waiting.buffer.held

-- what is known of the numbers that are missing, to ask for them at this tick
abbrev pub units_nacks_now : ℕ → UnitsState → List Nack
units_nacks_now now it = nacks_now now it.nacks (units_missing it)

-- the numbers that are asked for at this tick, up to so many
abbrev pub units_nacks : NackTimes → ℕ → ℕ → UnitsState → List ℕ
units_nacks times now room it = take room (numbers_due times now (units_nacks_now now it))

-- the same once they are
abbrev pub units_nacked : NackTimes → ℕ → ℕ → UnitsState → UnitsState
units_nacked times now room it =
    record it { nacks = nacks_asked times now room (units_nacks_now now it) }

-- whether the number of the first packet may be told
abbrev pub is_begun_in_time : UnitsState → Bool
is_begun_in_time it = may_tell_first it.reception.waiting

-- once it is told: it is due
abbrev pub units_begun : ℕ → UnitsState → UnitsState
units_begun number it = units_with_reception (begun_reception number it.reception) it

-- at the end of the stream: all that waits is due
abbrev pub units_finished : UnitsState → UnitsState
units_finished it = units_with_reception
    (record it.reception { waiting = record it.reception.waiting { is_over = true } }) it

-- for another sender; an access unit that had no room stays
abbrev pub units_restarted : UnitsState → UnitsState
units_restarted it = record it { reception = restarted it.reception; nacks = [] }
