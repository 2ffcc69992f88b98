-- What the payload formats say of a packet by itself.
use Rattle.std.specs.Prelude.{ℕ, Bool, false, List, Option, Some, None}
use Rattle.h26x_core.specs.H264AccessUnit as h264_access_unit
use Rattle.h26x_model.specs.Payload.TwoBytes.{is_two_byte_fragment, two_byte_detects}
use Rattle.h26x_depacketizer.specs.AccessUnit.{may_begin, is_last}
use Rattle.h264_payload.specs.H264 as h264
use Rattle.h265_payload.specs.H265 as h265
use Rattle.h265_payload.specs.LowestHeader.{with_lowest_header}
use Rattle.h266_payload.specs.H266 as h266
use Rattle.h26x_codec.specs.Keyframe.{begins_key_unit}
use Rattle.h26x_codec.specs.declared.codec.Codec.{Codec}
use Rattle.h26x_codec.specs.declared.codec.Codec.TheVariants as c

-- whether it may be the first of an access unit
abbrev pub is_head_of : Option Codec → List ℕ → Bool
is_head_of None packet = false
is_head_of (Some c.H264) packet = h264_access_unit.may_begin_h264 packet
is_head_of (Some c.H265) packet = may_begin (is_two_byte_fragment h265.h265_header packet) packet
is_head_of (Some c.H266) packet = may_begin (is_two_byte_fragment h266.h266_header packet) packet

-- whether it is the last of an access unit, with this marker bit
abbrev pub is_tail_of : Option Codec → Bool → List ℕ → Bool
is_tail_of None marker packet = false
is_tail_of (Some c.H264) marker packet = marker
is_tail_of (Some c.H265) marker packet =
    is_last (is_two_byte_fragment h265.h265_header packet) marker packet
is_tail_of (Some c.H266) marker packet =
    is_last (is_two_byte_fragment h266.h266_header packet) marker packet

-- whether it is known to hold a unit of a keyframe, or to be the first fragment of one
abbrev pub is_key_of : Option Codec → List ℕ → Bool
is_key_of None packet = false
is_key_of (Some c.H264) packet = h264.detects 5 packet
is_key_of (Some c.H265) packet = two_byte_detects h265.h265_header packet
is_key_of (Some c.H266) packet = two_byte_detects h266.h266_header packet

-- whether it begins a unit of a keyframe, where packets bear numbers or none
abbrev pub begins_key_of : Option Codec → Bool → List ℕ → Bool
begins_key_of None numbers packet = false
begins_key_of (Some codec) numbers packet = begins_key_unit codec numbers packet

-- a packet of H.265 with the header of its units, where it is an aggregate; that of H.266 has it, and
-- that of H.264 has neither layers nor temporal ids
abbrev pub with_units_header : Option Codec → Bool → List ℕ → List ℕ
with_units_header (Some c.H265) has_donl packet = with_lowest_header has_donl packet
with_units_header codec has_donl packet = packet
