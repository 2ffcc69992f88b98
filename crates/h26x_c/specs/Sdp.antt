-- What the calls on SDP answer.
use Rattle.std.specs.Prelude.{◌≡◌, ◌⊎◌, ℕ, Bool, true, false, nat_le, nat_lt, ◌&&◌, if◌then◌else◌, List, length, Option, Some, None, Result, Ok, Err}
use Rattle.std.specs.Option.{ok_or, option_map}
use Rattle.std.specs.Result.{result_map_both}
use Rattle.std.specs.List.{slice_get}
use Rattle.h26x_fmtp.specs.Pairs.{Pair}
use Rattle.h26x_fmtp.specs.RtpMaps.{rtp_map_text}
use Rattle.h26x_fmtp.specs.RepairMaps.{repair_map_text}
use Rattle.h26x_fmtp.specs.declared.repair_map.RepairMap.{RepairMap}
use Rattle.h26x_fmtp.specs.declared.rtp_map.RtpMap.{RtpMap}
use Rattle.h26x_fmtp.specs.declared.rtp_map.RtpMapError.{RtpMapError}
use Rattle.h26x_codes.specs.Codes.{codec_with_number, ok, out_of_memory, unknown_codec, wrong_end, no_room, out_of_range}
use Rattle.h26x_codes.specs.Copies.{with_front, with_first}
use Rattle.h26x_codes.specs.declared.code.Refusal.{Refusal}
use Rattle.h26x_sdp_handles.specs.SdpCodes.{absent, no_payload_type, refused_with, point_refused_with, rtp_map_code, format_fault_refused, codec_number, encoding_codec, codec_encoding}
use Rattle.h26x_answers.specs.declared.answer.AnswerConfig.{AnswerConfig}
use Rattle.h26x_sdp_handles.specs.Sdp.{sdp_codec, sdp_answer, sdp_own_fault, sdp_units, sdp_others}
use Rattle.h26x_sdp_handles.specs.Repair.{repair_number, repair_map_or_code}
use Rattle.h26x_sdp_handles.specs.SdpValues.{sdp_points, constraints_bytes, constraint_numbers}
use Rattle.h26x_sdp_handles.specs.declared.sdp_code.PointRefused.{PointRefused}
use Rattle.h26x_sdp_handles.specs.declared.sdp_code.Refused.{Refused}
use Rattle.h26x_sdp_handles.specs.declared.sdp_values.SdpConstraints.{SdpConstraints}
use Rattle.h26x_sdp_handles.specs.declared.sdp_values.ConstraintNumbers.{ConstraintNumbers}
use Rattle.h26x_sdp_handles.specs.declared.sdp_values.PointNumbers.{PointNumbers}
use Rattle.h26x_sdp_handles.specs.declared.sdp.SdpEndpoint.{SdpEndpoint}
use Rattle.h26x_endpoint.specs.declared.endpoint.Endpoint.{Endpoint}
use Rattle.h26x_endpoint.specs.declared.endpoint.Endpoint.TheVariants as e

-- whether format parameters stand behind a handle
abbrev pub is_sdp : Endpoint → Bool
is_sdp (e.Sdp it) = true
is_sdp it = false

-- what they say, or that the handle is of another kind
abbrev pub at_sdp : {T : Type 0} → Endpoint → (SdpEndpoint → Result T ℕ) → Result T ℕ
at_sdp (e.Sdp it) says = says it
at_sdp it says = Err wrong_end

-- the number of their codec; 0 of a handle of another kind
abbrev pub endpoint_sdp_codec : Endpoint → ℕ
endpoint_sdp_codec (e.Sdp it) = codec_number (sdp_codec it)
endpoint_sdp_codec it = 0

-- a code for a buffer into which bytes are to go
abbrev pub room_code : List ℕ → List ℕ → ℕ
room_code bytes room = if nat_le (length bytes) (length room) then ok else no_room

-- a code, a buffer with bytes at its front where there is room for them, and how many they are; where
-- there are none the buffer and the number stay
abbrev pub copy_answer : Result (List ℕ) ℕ → List ℕ → ℕ → ℕ × (List ℕ × ℕ)
copy_answer (Ok bytes) room len = (room_code bytes room, (with_front bytes room, length bytes))
copy_answer (Err code) room len = (code, (room, len))

-- a code and a number, which stays where there is none
abbrev pub number_answer : Result ℕ ℕ → ℕ → ℕ × ℕ
number_answer (Ok number) before = (ok, number)
number_answer (Err code) before = (code, before)

-- a refusal's code and place, or want of memory
abbrev pub IsRefused : Refused → ℕ → ℕ → Type 0
IsRefused it code place = (code ≡ out_of_memory) ⊎ ((code ≡ it.code) × (place ≡ it.place))

-- what should be answered, without the place of a refusal
abbrev pub without_place : {T : Type 0} → Result T Refused → Result T ℕ
without_place = result_map_both (λ it. it) (λ it. it.code)

-- what a call that makes parameters answers, with what stands where the handle is written: they are
-- made or memory lacks, or the code says why there are none
abbrev pub IsMade : Result SdpEndpoint ℕ → ℕ → Option Endpoint → Type 0
IsMade (Ok it) code made = ((code ≡ ok) × (made ≡ Some (e.Sdp it))) ⊎ (code ≡ out_of_memory)
IsMade (Err it) code made = (code ≡ it) ⊎ (code ≡ out_of_memory)

-- the answer of one handle to another
abbrev pub endpoint_answer : AnswerConfig → Endpoint → Endpoint → Result SdpEndpoint ℕ
endpoint_answer config (e.Sdp offered) (e.Sdp ours) = sdp_answer config offered ours
endpoint_answer config offered ours = Err wrong_end

-- the rule that a format of one's own breaks, or another reason why there is nothing to say of it
abbrev pub endpoint_broken_rule : Option AnswerConfig → Endpoint → Option Refused
endpoint_broken_rule None it = Some (refused_with out_of_range)
endpoint_broken_rule (Some config) (e.Sdp it) =
    option_map format_fault_refused (sdp_own_fault config it)
endpoint_broken_rule (Some config) it = Some (refused_with wrong_end)

-- its code and its place; where there is none what stood there stays
abbrev pub rule_answer : Option Refused → Refusal → ℕ × Refusal
rule_answer None before = (ok, before)
rule_answer (Some it) before = (it.code, record { first = it.place; second = 0 })

-- the units of the parameter with a name, or why there are none
abbrev pub endpoint_sdp_units : Endpoint → List ℕ → Result (List (List ℕ)) Refused
endpoint_sdp_units (e.Sdp it) name = sdp_units it name
endpoint_sdp_units it name = Err (refused_with wrong_end)

abbrev pub units_count : Result (List (List ℕ)) Refused → Result ℕ ℕ
units_count = result_map_both length (λ it. it.code)

-- one of them, counted from 0
abbrev pub nth_unit : ℕ → Result (List (List ℕ)) Refused → Result (List ℕ) ℕ
nth_unit i (Ok units) = ok_or (slice_get units i) absent
nth_unit i (Err it) = Err it.code

-- a parameter that the RFC doesn't have, counted from 0
abbrev pub endpoint_other : ℕ → Endpoint → Result Pair ℕ
endpoint_other i (e.Sdp it) = ok_or (slice_get (sdp_others it) i) absent
endpoint_other i it = Err wrong_end

-- a code for two buffers into which its name and its value are to go
abbrev pub pair_code : Result Pair ℕ → List ℕ → List ℕ → ℕ
pair_code (Ok it) name value =
    if nat_le (length it.name) (length name) && nat_le (length it.value) (length value) then ok
    else no_room
pair_code (Err code) name value = code

-- a code, a buffer with the first bytes of constraints at its front, as many as there is room for,
-- and what they say; where there are none both stay
abbrev pub constraints_answer : Result SdpConstraints ℕ → List ℕ → ConstraintNumbers →
    ℕ × (List ℕ × ConstraintNumbers)
constraints_answer (Ok it) room said =
    (ok, (with_first (constraints_bytes it) room, constraint_numbers it))
constraints_answer (Err code) room said = (code, (room, said))

-- the capability points in numbers, or why there are none
abbrev pub endpoint_sdp_points : Endpoint → Bool → Result (List PointNumbers) PointRefused
endpoint_sdp_points (e.Sdp it) or_default = sdp_points it or_default
endpoint_sdp_points it or_default = Err (point_refused_with wrong_end)

-- a code, a buffer with the first of them at its front, as many as there is room for, and how many
-- they all are; where there are none both stay
abbrev pub points_answer : Result (List PointNumbers) PointRefused → List PointNumbers → ℕ →
    ℕ × (List PointNumbers × ℕ)
points_answer (Ok points) room count = (ok, (with_first points room, length points))
points_answer (Err it) room count = (it.code, (room, count))

-- a payload type and its codec as they are read; where they aren't, both stay
abbrev pub rtp_map_answer : Result RtpMap RtpMapError → ℕ → ℕ → ℕ × (ℕ × ℕ)
rtp_map_answer (Ok map) payload_type codec =
    (ok, (map.payload_type, codec_number (encoding_codec map.encoding)))
rtp_map_answer (Err error) payload_type codec = (rtp_map_code error, (payload_type, codec))

-- a payload type and a codec that are to be written
abbrev pub rtp_map_or_code : ℕ → ℕ → Result RtpMap ℕ
rtp_map_or_code payload_type codec = elim (codec_with_number codec) [
  | None ↦ Err unknown_codec
  | Some c ↦ if nat_lt payload_type 128
      then Ok (record { payload_type = payload_type; encoding = codec_encoding c })
      else Err no_payload_type
]

abbrev pub rtp_map_text_or_code : ℕ → ℕ → Result (List ℕ) ℕ
rtp_map_text_or_code payload_type codec =
    result_map_both rtp_map_text (λ code. code) (rtp_map_or_code payload_type codec)

-- a payload type and what it is of as they are read; where they aren't, both stay
abbrev pub repair_map_answer : Result RepairMap RtpMapError → ℕ → ℕ → ℕ × (ℕ × ℕ)
repair_map_answer (Ok map) payload_type format =
    (ok, (map.payload_type, repair_number map.format))
repair_map_answer (Err error) payload_type format = (rtp_map_code error, (payload_type, format))

abbrev pub repair_map_text_or_code : ℕ → ℕ → Result (List ℕ) ℕ
repair_map_text_or_code payload_type format =
    result_map_both repair_map_text (λ code. code) (repair_map_or_code payload_type format)
