-- What goes beside video in a session, as numbers (the library's rule).
use Rattle.std.specs.Prelude.{◌≡◌, ◌⊎◌, ℕ, nat_lt, ◌==◌, if◌then◌else◌, List, Option, Some, None, is_some, Result, Ok, Err, Vec, MatchResult}
use Rattle.std.specs.Option.{unwrap_or}
use Rattle.std.specs.Result.{result_map_both}
use Rattle.std.specs.declared.alloc.Global.{Global}
use Rattle.h26x_fmtp.specs.declared.repair_map.RepairFormat.{RepairFormat}
use Rattle.h26x_fmtp.specs.declared.repair_map.RepairFormat.TheVariants.{Rtx, Red, Ulpfec, Flexfec, Flexfec03}
use Rattle.h26x_fmtp.specs.declared.repair_map.RepairMap.{RepairMap}
use Rattle.h26x_sdp.specs.declared.rtx.RtxFormat.{RtxFormat}
use Rattle.h26x_sdp.specs.Rtx.{rtx_format_of, rtx_format_text}
use Rattle.h26x_codes.specs.Codes.{out_of_memory, out_of_range}
use Rattle.h26x_sdp_handles.specs.declared.repair.RtxNumbers.{RtxNumbers}
use Rattle.h26x_sdp_handles.specs.declared.sdp_code.Refused.{Refused}
use Rattle.h26x_sdp_handles.specs.SdpCodes.{no_payload_type, rtx_refused}

abbrev pub repair_number : RepairFormat → ℕ
repair_number Rtx = 1
repair_number Red = 2
repair_number Ulpfec = 3
repair_number Flexfec = 4
repair_number Flexfec03 = 5

abbrev pub repair_with_number : ℕ → Option RepairFormat
repair_with_number n =
    if n == 1 then Some Rtx else if n == 2 then Some Red else if n == 3 then Some Ulpfec
    else if n == 4 then Some Flexfec else if n == 5 then Some Flexfec03 else None

-- a payload type and what it is of that are to be written
abbrev pub repair_map_or_code : ℕ → ℕ → Result RepairMap ℕ
repair_map_or_code payload_type number = elim (repair_with_number number) [
  | None ↦ Err out_of_range
  | Some format ↦ if nat_lt payload_type 128
      then Ok (record { payload_type = payload_type; format = format }) else Err no_payload_type
]

-- a format of retransmission in numbers, and of them
abbrev pub rtx_numbers : RtxFormat → RtxNumbers
rtx_numbers it = record {
  rtx_time = unwrap_or it.rtx_time 0;
  payload_type = it.payload_type;
  has_rtx_time = is_some it.rtx_time;
}

abbrev pub rtx_of_numbers : RtxNumbers → RtxFormat
rtx_of_numbers it = record {
  payload_type = it.payload_type;
  rtx_time = if it.has_rtx_time then Some it.rtx_time else None;
}

-- that of a text, or why there is none
abbrev pub rtx_read : List ℕ → Result RtxNumbers Refused
rtx_read text = result_map_both rtx_numbers rtx_refused (rtx_format_of text)

-- its text, where the payload type is one
abbrev pub rtx_written : RtxNumbers → Result (List ℕ) ℕ
rtx_written it =
    if nat_lt it.payload_type 128 then Ok (rtx_format_text (rtx_of_numbers it))
    else Err no_payload_type

-- a call answers it, or that memory lacks
abbrev pub SaysRtxText : Result (Vec ℕ Global) ℕ → Result (List ℕ) ℕ → Type 0
SaysRtxText result said = MatchResult result (λ text. said ≡ Ok text.items)
    (λ code. (code ≡ out_of_memory) ⊎ (said ≡ Err code))
