-- The constraints of H.266 that `interop-constraints` says: ptl_frame_only_constraint_flag,
-- ptl_multilayer_enabled_flag and general_constraints_info( ), which ends with a byte (RFC 9328,
-- section 7.2; Rec. ITU-T H.266, sections 7.3.3.1 and 7.3.3.2).
use Rattle.std.specs.Prelude.{ℕ, ◌+◌, ◌*◌, ◌/◌, ◌==◌, nat_lt, Bool, if◌then◌else◌, List, [], length, slice_index_or, Option, Some, None, Result, Ok, Err}
use Rattle.std.specs.Option.{option_and_then}
use Rattle.std.specs.Result.{result_ok}
use Rattle.hex.specs.Hex.{decode_sized}
use Rattle.h26x_sdp.specs.declared.h265.H265Parameter.TheVariants as h265_parameter
use Rattle.h26x_sdp.specs.H265Rows as h265
use Rattle.base64.specs.Engines.{standard}
use Rattle.base64.specs.GeneralPurpose.{encode_of, decode_of}
use Rattle.base64.specs.declared.decode.DecodeError.{DecodeError}
use Rattle.h26x_core.specs.Word.{field}
use Rattle.h26x_sdp.specs.declared.h266.H266Parameter.TheVariants.{InteropConstraints}
use Rattle.h26x_sdp.specs.H266Rows.{rows, row_place}
use Rattle.h26x_fmtp.specs.Reading.{FormatParameters, value_or_default}
use Rattle.h26x_sdp.specs.declared.error.ConstraintsError.{ConstraintsError}
use Rattle.h26x_sdp.specs.declared.error.ConstraintsError.TheVariants.{NotBase64, Short, Long}

abbrev pub constraints_byte : List ℕ → ℕ → ℕ
constraints_byte bytes place = slice_index_or bytes place 0

-- gci_present_flag, behind the two flags
abbrev pub has_general : List ℕ → Bool
has_general bytes = field (constraints_byte bytes 0) 5 5 == 1

-- gci_num_additional_bits, behind these three flags and the bits of 71
abbrev pub additional_bits : List ℕ → ℕ
additional_bits bytes =
    field (constraints_byte bytes 9) 5 0 * 4 + field (constraints_byte bytes 10) 7 6

-- how many bytes they are: one, or 82 bits and the additional ones
abbrev pub constraints_len : List ℕ → ℕ
constraints_len bytes = if has_general bytes then (89 + additional_bits bytes) / 8 else 1

-- bytes, where they are as many as they say
abbrev pub as_constraints : List ℕ → Result (List ℕ) ConstraintsError
as_constraints bytes =
    if nat_lt (length bytes) (constraints_len bytes) then Err Short
    else (if nat_lt (constraints_len bytes) (length bytes) then Err Long else Ok bytes)

abbrev pub constraints_decoded : Result (List ℕ) DecodeError → Result (List ℕ) ConstraintsError
constraints_decoded (Err error) = Err NotBase64
constraints_decoded (Ok bytes) = as_constraints bytes

-- a text that may be absent
abbrev pub constraints_said : Option (List ℕ) → List ℕ
constraints_said None = []
constraints_said (Some text) = text

-- the constraints of a text
abbrev pub constraints_in : List ℕ → Result (List ℕ) ConstraintsError
constraints_in text = constraints_decoded (decode_of standard text)

-- the constraints that parameters of H.266 say, or those of the default
abbrev pub constraints_of : FormatParameters → Result (List ℕ) ConstraintsError
constraints_of it =
    constraints_in (constraints_said (value_or_default rows it (row_place InteropConstraints)))

-- the bytes of H.265's flags of constraints, which parameters say, or of those of the default
abbrev pub constraint_flags : FormatParameters → Option (List ℕ)
constraint_flags it = option_and_then (λ text. result_ok (decode_sized text 6))
    (value_or_default h265.rows it (h265.row_place h265_parameter.InteropConstraints))

-- constraints as they are written
abbrev pub constraints_text : List ℕ → List ℕ
constraints_text bytes = encode_of standard bytes
