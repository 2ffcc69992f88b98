-- The value of `a=rtpmap` of what goes beside video: packets that are sent again (RFC 4588, section
-- 8.3), redundant payloads (RFC 2198, section 5) and forward error correction (RFC 5109, section
-- 13.2; RFC 8627, section 5.1.2). It is written as a codec's is (RFC 8866, section 6.6), and its clock
-- rate is the video's, 90000 (RFC 4588, section 8.3).
use Rattle.std.specs.Prelude.{ℕ, ◌==◌, nat_eq, if◌then◌else◌, List, ◌++◌, ◌∷◌, codes, decimal, Option, Some, None, Result, Ok, Err}
use Rattle.std.specs.List.{before_first, after_first}
use Rattle.std.specs.Cmp.Lexicographic.{pointwise}
use Rattle.h26x_fmtp.specs.declared.repair_map.RepairFormat.{RepairFormat}
use Rattle.h26x_fmtp.specs.declared.repair_map.RepairFormat.TheVariants.{Rtx, Red, Ulpfec, Flexfec, Flexfec03}
use Rattle.h26x_fmtp.specs.declared.repair_map.RepairMap.{RepairMap}
use Rattle.h26x_fmtp.specs.declared.rtp_map.RtpMapError.{RtpMapError}
use Rattle.h26x_fmtp.specs.declared.rtp_map.RtpMapError.TheVariants as error
use Rattle.h26x_fmtp.specs.Pairs.{trim_ascii}
use Rattle.h26x_fmtp.specs.RtpMaps.{payload_type_in}
use Rattle.h26x_fmtp.specs.Tables.{same_name}

abbrev pub repair_format_name : RepairFormat → List ℕ
repair_format_name Rtx = codes "rtx"
repair_format_name Red = codes "red"
repair_format_name Ulpfec = codes "ulpfec"
repair_format_name Flexfec = codes "flexfec"
repair_format_name Flexfec03 = codes "flexfec-03"

-- the format of a name, without regard to case
abbrev pub repair_format_of : List ℕ → Option RepairFormat
repair_format_of name =
    if same_name (codes "rtx") name then Some Rtx else
    (if same_name (codes "red") name then Some Red else
    (if same_name (codes "ulpfec") name then Some Ulpfec else
    (if same_name (codes "flexfec") name then Some Flexfec else
    (if same_name (codes "flexfec-03") name then Some Flexfec03 else None))))

-- what stands before the first blank of a text, and behind it
abbrev pub number_part : List ℕ → List ℕ
number_part text = before_first (λ byte. byte == 32) (trim_ascii text)

abbrev pub behind_number : List ℕ → List ℕ
behind_number text = trim_ascii (after_first (λ byte. byte == 32) (trim_ascii text))

-- what stands there before a `/`, and behind it
abbrev pub name_part : List ℕ → List ℕ
name_part text = before_first (λ byte. byte == 47) (behind_number text)

abbrev pub clock_part : List ℕ → List ℕ
clock_part text = after_first (λ byte. byte == 47) (behind_number text)

-- what the parts say: the first that is wrong is the answer
abbrev pub of_parts : Option ℕ → Option RepairFormat → List ℕ → Result RepairMap RtpMapError
of_parts None format clock = Err error.PayloadType
of_parts (Some payload_type) None clock = Err error.Encoding
of_parts (Some payload_type) (Some format) clock =
    if pointwise nat_eq clock (codes "90000")
    then Ok (record { payload_type = payload_type; format = format }) else Err error.ClockRate

abbrev pub repair_map_of : List ℕ → Result RepairMap RtpMapError
repair_map_of text = of_parts (payload_type_in (number_part text))
    (repair_format_of (name_part text)) (clock_part text)

-- as it is written
abbrev pub repair_map_text : RepairMap → List ℕ
repair_map_text map =
    decimal map.payload_type ++ 32 ∷ repair_format_name map.format ++ codes "/90000"
