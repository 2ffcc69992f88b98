-- The value of `a=rtpmap` (RFC 8866, section 6.6): a payload type, a blank, an encoding name, `/` and a
-- clock rate, which is 90000 (RFC 6184, section 8.2.1; RFC 7798, section 7.2.1; RFC 9328, section
-- 7.3.1).
use Rattle.std.specs.Prelude.{ℕ, ◌==◌, nat_eq, nat_lt, if◌then◌else◌, List, ◌++◌, ◌∷◌, codes, decimal, Option, Some, None, Result, Ok, Err}
use Rattle.std.specs.List.{before_first, after_first}
use Rattle.std.specs.Option.{option_and_then}
use Rattle.std.specs.Result.{result_ok}
use Rattle.std.specs.Cmp.Lexicographic.{pointwise}
use Rattle.h26x_fmtp.specs.declared.rtp_map.Encoding.{Encoding}
use Rattle.h26x_fmtp.specs.declared.rtp_map.Encoding.TheVariants.{H264, H265, H266}
use Rattle.h26x_fmtp.specs.declared.rtp_map.RtpMap.{RtpMap}
use Rattle.h26x_fmtp.specs.declared.rtp_map.RtpMapError.{RtpMapError}
use Rattle.h26x_fmtp.specs.declared.rtp_map.RtpMapError.TheVariants as error
use Rattle.h26x_fmtp.specs.Kinds.{number_in}
use Rattle.h26x_fmtp.specs.Pairs.{trim_ascii}
use Rattle.h26x_fmtp.specs.Tables.{same_name}

abbrev pub encoding_name : Encoding → List ℕ
encoding_name H264 = codes "H264"
encoding_name H265 = codes "H265"
encoding_name H266 = codes "H266"

-- the encoding of a name, without regard to case
abbrev pub encoding_of : List ℕ → Option Encoding
encoding_of name =
    if same_name (codes "H264") name then Some H264 else
    (if same_name (codes "H265") name then Some H265 else
    (if same_name (codes "H266") name then Some H266 else None))

-- a payload type is a number of 7 bits
abbrev pub payload_type_in : List ℕ → Option ℕ
payload_type_in text =
    option_and_then (λ number. if nat_lt number 128 then Some number else None)
    (result_ok (number_in text))

abbrev pub with_clock : ℕ → Encoding → List ℕ → Result RtpMap RtpMapError
with_clock payload_type encoding clock =
    if pointwise nat_eq clock (codes "90000") then
    Ok (record { payload_type = payload_type; encoding = encoding })
    else Err error.ClockRate

abbrev pub with_encoding : ℕ → List ℕ → Option Encoding → Result RtpMap RtpMapError
with_encoding payload_type clock None = Err error.Encoding
with_encoding payload_type clock (Some encoding) = with_clock payload_type encoding clock

-- what stands behind a payload type, cut at its `/`
abbrev pub with_name : ℕ → List ℕ → Result RtpMap RtpMapError
with_name payload_type rest =
    with_encoding payload_type (after_first (λ byte. byte == 47) (trim_ascii rest))
    (encoding_of (before_first (λ byte. byte == 47) (trim_ascii rest)))

abbrev pub with_payload_type : List ℕ → Option ℕ → Result RtpMap RtpMapError
with_payload_type rest None = Err error.PayloadType
with_payload_type rest (Some payload_type) = with_name payload_type rest

-- a text without the white space at its ends, cut at its first blank
abbrev pub rtp_map_of : List ℕ → Result RtpMap RtpMapError
rtp_map_of text =
    with_payload_type (after_first (λ byte. byte == 32) (trim_ascii text))
    (payload_type_in (before_first (λ byte. byte == 32) (trim_ascii text)))

-- as it is written
abbrev pub rtp_map_text : RtpMap → List ℕ
rtp_map_text map = decimal map.payload_type ++ 32 ∷ encoding_name map.encoding ++ codes "/90000"
