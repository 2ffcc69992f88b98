-- What a caller of C sets and is told, and what a call for the next access unit answers.
use Rattle.std.specs.Prelude.{◌≡◌, ◌≢◌, ℕ, List, Some, Result}
use Rattle.h26x_reorder.specs.Rtp.{RtpBody}
use Rattle.h26x_access_units.specs.declared.config.AccessUnitConfig.{AccessUnitConfig}
use Rattle.h26x_access_units.specs.declared.counts.Counts as counted
use Rattle.h26x_access_units.specs.declared.nacks.NackTimes as nacks
use Rattle.h26x_c.specs.declared.access_units.Config.{Config}
use Rattle.h26x_c.specs.declared.access_units.Counts.{Counts}
use Rattle.h26x_c.specs.declared.access_units.NackTimes.{NackTimes}
use Rattle.h26x_codec.specs.declared.codec.Codec.{Codec}
use Rattle.h26x_model.specs.Where.{Where}
use Rattle.h26x_endpoint.specs.EndpointStates.{endpoint_units}
use Rattle.h26x_codes.specs.Codes.{ok, out_of_memory}
use Rattle.h26x_handles.specs.UnitsState.{UnitsState, units_codec_or_code, fresh_access_units, next_numbers, pushed_numbers, units_push_answer, IsUnitsPushed, IsUnitGiven}
use Rattle.h26x_handles.specs.declared.access_units.NextAnswer.{NextAnswer}
use Rattle.h26x_handles.specs.declared.access_units.UnitTold.{UnitTold}
use Rattle.h26x_endpoint.specs.declared.endpoint.Endpoint.{Endpoint}

-- the settings of a receiver
abbrev pub units_config : Config → AccessUnitConfig
units_config config = record {
  window = config.window;
  far = config.far_away;
  far_behind = config.far_behind;
  max_wait = config.max_wait;
  begin_wait = config.begin_wait;
  held_limit = config.held_limit;
  run_limit = config.run_limit;
  unit_limit = config.unit_limit;
  has_sets = config.has_sets;
}

-- the codec of a receiver with these settings, or why there is none
abbrev pub config_codec_or_code : Config → Result Codec ℕ
config_codec_or_code config = units_codec_or_code config.codec config.numbers config.window

-- such a receiver
abbrev pub fresh_units_with : Codec → Config → UnitsState
fresh_units_with codec config =
    fresh_access_units codec config.numbers config.avc (units_config config)

-- when missing numbers are asked for
abbrev pub nack_times : NackTimes → nacks.NackTimes
nack_times times = record { first = times.first; again = times.again; most = times.most }

-- what was counted, as C is told it
abbrev pub counts_told : counted.Counts → Counts
counts_told counts = record {
  taken = counts.taken;
  lost = counts.lost;
  late = counts.late;
  twice = counts.twice;
  stray = counts.stray;
  refused = counts.refused;
  skipped = counts.skipped;
  anew = counts.anew;
  units = counts.units;
  whole = counts.whole;
  units_given_up = counts.units_given_up;
  texts_given_up = counts.texts_given_up;
  no_unit = counts.no_unit;
  still = counts.still;
  unbelieved = counts.unbelieved;
}

-- the code and what is told say what came of a call for the next access unit, and that came of it
abbrev pub IsNextCode : ℕ → UnitsState → UnitsState → List ℕ → List ℕ → ℕ → UnitTold → UnitTold →
    Type 0
IsNextCode now it new to new_to code told new_told = (answer : NextAnswer)
    × ((code, new_told) ≡ next_numbers answer told) × IsUnitGiven now it new to new_to answer

-- the same of the endpoints that stood and stand behind a handle, if they receive access units, unless
-- memory lacked
abbrev pub IsNextOf : ℕ → Endpoint → Endpoint → List ℕ → List ℕ → ℕ → UnitTold →
    UnitTold → Type 0
IsNextOf now old new to new_to code told new_told =
    (it : UnitsState) → endpoint_units old ≡ Some it → code ≢ out_of_memory → (next : UnitsState)
    × (endpoint_units new ≡ Some next) × IsNextCode now it next to new_to code told new_told

-- once a call is carried out, a packet came to such an endpoint at this tick
abbrev pub IsPushedTo : ℕ → ℕ × RtpBody → ℕ → Endpoint → Endpoint → Type 0
IsPushedTo now p code old new = Where (endpoint_units old) (λ it. code ≡ ok →
    (next : UnitsState) × (endpoint_units new ≡ Some next) × IsUnitsPushed now p it next)

-- and these numbers tell what became of it
abbrev pub TellsPush : Endpoint → ℕ × RtpBody → ℕ → ℕ × ℕ → Type 0
TellsPush old p code told = Where (endpoint_units old) (λ it. code ≡ ok →
    told ≡ pushed_numbers (units_push_answer it p))
