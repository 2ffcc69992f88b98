-- Frame numbers (Recommendation H.264, 7.3.2.1.1, 7.3.3, 7.4.3): how sequence parameter sets tell that
-- they are written, where they stand in slice headers, and what they tell of pictures that are missing.
use Rattle.std.specs.Prelude.{ℕ, zero, suc, ◌+◌, ◌-◌, ◌/◌, ◌%◌, ◌^◌, ◌==◌, nat_lt, nat_le, min, Bool, false, not, ◌&&◌, ◌||◌, if◌then◌else◌, List, Option, Some}
use Rattle.std.specs.Bool.{beq}
use Rattle.h26x_access_units.specs.Bits.{unit_bits, first_bit, behind_bit, behind_bits, bits_number, code_of, behind_codes}
use Rattle.h26x_access_units.specs.declared.frame_number.FrameNumbering.{FrameNumbering}
use Rattle.h26x_access_units.specs.declared.frame_number.Numbering.{Numbering}
use Rattle.h26x_access_units.specs.declared.frame_number.Numbering.TheVariants as numberings

-- what tells of so many bits
abbrev pub told : ℕ → Bool → Numbering
told bits has_plane = numberings.Told (record { bits = bits; has_plane = has_plane })

-- whether two are the same
abbrev pub is_same_numbering : FrameNumbering → FrameNumbering → Bool
is_same_numbering a b = (a.bits == b.bits) && beq a.has_plane b.has_plane

-- what sets tell together: nothing that is usable where they differ
abbrev pub joined_numbering : Numbering → Numbering → Numbering
joined_numbering numberings.NotTold other = other
joined_numbering it numberings.NotTold = it
joined_numbering (numberings.Told a) (numberings.Told b) =
    if is_same_numbering a b then numberings.Told a else numberings.Unusable
joined_numbering it other = numberings.Unusable

-- whether a set of a profile tells of chroma and scaling (7.3.2.1.1)
abbrev pub tells_chroma : ℕ → Bool
tells_chroma profile = (profile == 44) || ((profile == 83) || ((profile == 86)
    || ((profile == 100) || ((profile == 110) || ((profile == 118) || ((profile == 122)
    || ((profile == 128) || ((profile == 134) || ((profile == 135) || ((profile == 138)
    || ((profile == 139) || (profile == 244))))))))))))

-- the next value of a scaling list, where the last is known, by the code of the difference, which has a
-- sign (7.3.2.1.1.1, 9.1.1)
abbrev pub next_scale : ℕ → ℕ → ℕ
next_scale last code =
    if code % 2 == 1 then (last + code / 2 + 257) % 256 else (last + 256 - code / 2) % 256

-- what stands behind so many values of a scaling list, or behind the one that is 0
abbrev pub behind_list : ℕ → ℕ → List Bool → List Bool
behind_list zero last bits = bits
behind_list (suc left) last bits =
    if next_scale last (code_of bits).value == 0 then (code_of bits).behind
    else behind_list left (next_scale last (code_of bits).value) (code_of bits).behind

-- what stands behind a scaling list, if there is one
abbrev pub behind_list_if : ℕ → List Bool → List Bool
behind_list_if size bits =
    if first_bit bits then behind_list size 8 (behind_bit bits) else behind_bit bits

-- what stands behind so many
abbrev pub behind_lists : ℕ → ℕ → List Bool → List Bool
behind_lists zero size bits = bits
behind_lists (suc count) size bits = behind_lists count size (behind_list_if size bits)

-- what stands behind six scaling lists of 16 values and so many of 64, if there are any
abbrev pub behind_matrix : ℕ → List Bool → List Bool
behind_matrix count bits =
    if first_bit bits then behind_lists count 64 (behind_lists 6 16 (behind_bit bits))
    else behind_bit bits

-- what stands behind a bit, if there is one
abbrev pub behind_bit_if : Bool → List Bool → List Bool
behind_bit_if is_there bits = if is_there then behind_bit bits else bits

-- whether colour planes are coded apart, where a set tells of chroma
abbrev pub has_chroma_plane : List Bool → Bool
has_chroma_plane bits = ((code_of bits).value == 3) && first_bit (code_of bits).behind

-- how many scaling lists of 64 values there are
abbrev pub long_lists : ℕ → ℕ
long_lists format = if format == 3 then 6 else 2

-- what stands behind chroma, depths and scaling
abbrev pub behind_chroma : List Bool → List Bool
behind_chroma bits = behind_matrix (long_lists (code_of bits).value) (behind_bit (behind_codes 2
    (behind_bit_if ((code_of bits).value == 3) (code_of bits).behind)))

-- what stands behind the cycle of differences of the order count, of at most 255
abbrev pub behind_cycle : List Bool → List Bool
behind_cycle bits = behind_codes (min (code_of bits).value 255) (code_of bits).behind

-- what stands behind the order count, by its type
abbrev pub behind_order_count_of : ℕ → List Bool → List Bool
behind_order_count_of type bits =
    if type == 0 then behind_codes 1 bits
    else (if type == 1 then behind_cycle (behind_codes 2 (behind_bit bits)) else bits)

-- so of a set
abbrev pub behind_order_count : List Bool → List Bool
behind_order_count bits = behind_order_count_of (code_of bits).value (code_of bits).behind

-- What a set tells by log2_max_frame_num_minus4, gaps_in_frame_num_value_allowed_flag and
-- frame_mbs_only_flag: usable are numbers without gaps, of frames alone.
abbrev pub numbering_by : ℕ → Bool → Bool → Bool → Numbering
numbering_by width has_plane has_gaps is_frames =
    if nat_le width 12 && (not has_gaps && is_frames)
    then told (width + 4) has_plane else numberings.Unusable

-- so by its bits from max_num_ref_frames on
abbrev pub numbering_behind : ℕ → Bool → List Bool → Numbering
numbering_behind width has_plane bits = numbering_by width has_plane (first_bit (code_of bits).behind)
    (first_bit (behind_codes 2 (behind_bit (code_of bits).behind)))

-- so from log2_max_frame_num_minus4 on
abbrev pub numbering_from : Bool → List Bool → Numbering
numbering_from has_plane bits =
    numbering_behind (code_of bits).value has_plane (behind_order_count (code_of bits).behind)

-- so from behind seq_parameter_set_id on, by its profile
abbrev pub numbering_of_profile : ℕ → List Bool → Numbering
numbering_of_profile profile bits =
    if tells_chroma profile then numbering_from (has_chroma_plane bits) (behind_chroma bits)
    else numbering_from false bits

-- what a set tells: behind its header and profile_idc stand two bytes of constraints and level
abbrev pub sps_numbering : List ℕ → Numbering
sps_numbering unit = numbering_of_profile (bits_number 8 (behind_bits 8 (unit_bits unit)))
    (code_of (behind_bits 16 (behind_bits 8 (behind_bits 8 (unit_bits unit))))).behind

-- how many bits stand before a frame number that tell of a colour plane
abbrev pub plane_bits : FrameNumbering → ℕ
plane_bits it = if it.has_plane then 2 else 0

-- The frame number by what stands behind the header of a slice: behind first_mb_in_slice, slice_type
-- and pic_parameter_set_id (7.3.3).
abbrev pub frame_number : FrameNumbering → List ℕ → ℕ
frame_number it head =
    bits_number it.bits (behind_bits (plane_bits it) (behind_codes 3 (unit_bits head)))

-- how many packets a keyframe takes at least: two where the last one that came took more than one
abbrev pub key_packets : Bool → ℕ
key_packets is_long = if is_long then 2 else 1

-- Whether no reference picture is among the packets that are missing between the last one that came
-- and a picture, by their frame numbers, which go round at `most` (7.4.3): that of the picture is the
-- one behind, and too few packets are missing for numbers to have gone round, and for another keyframe
-- with as many reference pictures behind it.
abbrev pub tells_no_loss : ℕ → ℕ → ℕ → ℕ → ℕ → Bool
tells_no_loss most key last missing number = (number == (last + 1) % most)
    && (nat_lt missing most && nat_lt missing (last + key))

-- so by what stands behind the headers of their first slices
abbrev pub tells_none_lost : Numbering → Bool → Option (List ℕ) → Option (List ℕ) → ℕ → Bool
tells_none_lost (numberings.Told it) is_long (Some last) (Some head) missing = nat_le it.bits 16
    && tells_no_loss (2 ^ it.bits) (key_packets is_long) (frame_number it last) missing
    (frame_number it head)
tells_none_lost it is_long last head missing = false
