-- What the calls on agreed streams and declared formats answer.
use Rattle.std.specs.Prelude.{ℕ, if◌then◌else◌, List, Option, Some, None, Result, Ok, Err}
use Rattle.std.specs.Option.{ok_or}
use Rattle.h26x_answers.specs.declared.agreed.Agreed.{Agreed}
use Rattle.h26x_answers.specs.declared.answer.AnswerConfig.{AnswerConfig}
use Rattle.h26x_codes.specs.Codes.{ok, out_of_range, wrong_end}
use Rattle.h26x_sdp_handles.specs.SdpCodes.{no_answer, refused_with}
use Rattle.h26x_sdp_handles.specs.Streams.{sdp_agreed, sdp_accepts, stream_numbers}
use Rattle.h26x_sdp_handles.specs.LevelUnits.{sdp_level_unit}
use Rattle.h26x_sdp_handles.specs.declared.sdp_code.Refused.{Refused}
use Rattle.h26x_sdp_handles.specs.declared.streams.StreamNumbers.{StreamNumbers}
use Rattle.h26x_endpoint.specs.declared.endpoint.Endpoint.{Endpoint}
use Rattle.h26x_endpoint.specs.declared.endpoint.Endpoint.TheVariants as e

-- what the end of the first handle sends and receives, or why nothing is agreed
abbrev pub endpoint_agreed : Option AnswerConfig → Endpoint → Endpoint → Result Agreed ℕ
endpoint_agreed None own other = Err out_of_range
endpoint_agreed (Some config) (e.Sdp own) (e.Sdp other) =
    ok_or (sdp_agreed config own other) no_answer
endpoint_agreed (Some config) own other = Err wrong_end

-- a code and two streams in numbers, which stay where nothing is agreed
abbrev pub agreed_answer : Result Agreed ℕ → StreamNumbers → StreamNumbers →
    ℕ × (StreamNumbers × StreamNumbers)
agreed_answer (Ok it) sends receives =
    (ok, (stream_numbers it.sends, stream_numbers it.receives))
agreed_answer (Err code) sends receives = (code, (sends, receives))

-- whether a format of ours receives a declared one, as a code
abbrev pub declared_code : Option AnswerConfig → Endpoint → Endpoint → ℕ
declared_code None declared own = out_of_range
declared_code (Some config) (e.Sdp declared) (e.Sdp own) =
    if sdp_accepts config declared own then ok else no_answer
declared_code (Some config) declared own = wrong_end

-- a unit of the sets of a level, or why there is none
abbrev pub endpoint_level_unit : Endpoint → ℕ → ℕ → Result (List ℕ) Refused
endpoint_level_unit (e.Sdp it) level i = sdp_level_unit it level i
endpoint_level_unit it level i = Err (refused_with wrong_end)

-- the same without the place of a refusal
abbrev pub unit_or_code : Result (List ℕ) Refused → Result (List ℕ) ℕ
unit_or_code (Ok unit) = Ok unit
unit_or_code (Err it) = Err it.code
