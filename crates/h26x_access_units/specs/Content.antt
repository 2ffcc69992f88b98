-- What the NAL units of an access unit tell of it, from the first up to its first slice (the video
-- standards' sections on NAL units, slice headers and the order of NAL units).
use Rattle.std.specs.Prelude.{ℕ, zero, suc, ◌+◌, ◌==◌, nat_lt, nat_le, Bool, true, false, not, ◌&&◌, ◌||◌, if◌then◌else◌, List, [], ◌∷◌, length, get_or, drop, max, Option, Some, None, is_some, ◌*◌}
use Rattle.std.specs.Option.{option_map}
use Rattle.h26x_core.specs.Word.{field, is_set}
use Rattle.h26x_core.specs.declared.extra.CodecExtra.{CodecExtra}
use Rattle.h26x_core.specs.declared.extra.CodecExtra.TheVariants as extras
use Rattle.h26x_cut.specs.Cutting.{behind_first_code}
use Rattle.h26x_access_units.specs.declared.content.ParameterSets.{ParameterSets}
use Rattle.h26x_access_units.specs.declared.content.Slice.{Slice}
use Rattle.h26x_access_units.specs.declared.content.UnitKind.{UnitKind}
use Rattle.h26x_access_units.specs.declared.content.UnitKind.TheVariants as kinds
use Rattle.h26x_access_units.specs.declared.content.Content.{Content}
use Rattle.h26x_access_units.specs.declared.frame_number.Numbering.TheVariants as numberings
use Rattle.h26x_access_units.specs.FrameNumber.{joined_numbering, sps_numbering}

-- no parameter set
abbrev pub no_sets : ParameterSets
no_sets = record { vps = false; sps = false; pps = false }

-- every kind of them
abbrev pub all_sets : ParameterSets
all_sets = record { vps = true; sps = true; pps = true }

-- those of both
abbrev pub joined_sets : ParameterSets → ParameterSets → ParameterSets
joined_sets some others = record {
  vps = some.vps || others.vps;
  sps = some.sps || others.sps;
  pps = some.pps || others.pps;
}

-- a slice
abbrev pub slice : Bool → Bool → Bool → ℕ → Slice
slice is_first is_key is_unreferenced layer = record {
  is_first = is_first;
  is_key = is_key;
  is_unreferenced = is_unreferenced;
  layer = layer;
}

-- The kind of an H.264 unit by its nal_ref_idc, its type and the byte behind its header
-- (Recommendation H.264, 7.3.1, table 7-1): the first slice of a picture has first_mb_in_slice 0
-- (7.4.3), whose code is the bit 1 (9.1); nothing refers to a picture of nal_ref_idc 0 (7.4.1); SEI and
-- types 14 to 18 stand before slices (7.4.1.2.3).
abbrev pub h264_kind_by : ℕ → ℕ → ℕ → UnitKind
h264_kind_by ref_idc type behind =
    if type == 7 then kinds.Sps 0
    else (if type == 8 then kinds.Pps
    else (if type == 9 then kinds.Delimiter
    else (if type == 1 || (type == 2 || type == 5)
    then kinds.Slice (slice (is_set behind 7) (type == 5) (ref_idc == 0) 0)
    else (if (type == 6) || (nat_le 14 type && nat_le type 18) then kinds.Prefix
    else kinds.Other))))

-- so of what stands from its first byte on
abbrev pub h264_kind : List ℕ → UnitKind
h264_kind unit =
    h264_kind_by (field (get_or unit 0 0) 6 5) (field (get_or unit 0 0) 4 0) (get_or unit 1 0)

-- The kind of an H.265 unit of the base layer by its type, its temporal layer and the byte behind its
-- header (Recommendation H.265, 7.3.1.2, table 7-1): the first slice of a picture has
-- first_slice_segment_in_pic_flag 1 (7.3.6.1); slices of an even type under 16 are of sub-layer
-- non-reference pictures; a sequence parameter set tells how many temporal layers there are (7.3.2.2);
-- prefix SEI and types 41 to 44 stand before slices (7.4.2.4.4).
abbrev pub h265_kind_by : ℕ → ℕ → ℕ → UnitKind
h265_kind_by type layer behind =
    if type == 32 then kinds.Vps
    else (if type == 33 then kinds.Sps (field behind 3 1 + 1)
    else (if type == 34 then kinds.Pps
    else (if type == 35 then kinds.Delimiter
    else (if nat_lt type 10 || (nat_le 16 type && nat_le type 21)
    then kinds.Slice (slice (is_set behind 7) (nat_le 16 type)
    (nat_lt type 16 && (field type 0 0 == 0)) layer)
    else (if (type == 39) || (nat_le 41 type && nat_le type 44) then kinds.Prefix
    else kinds.Other)))))

-- so of what stands from its first byte on; of another layer, and where nuh_temporal_id_plus1 is 0, as
-- no header has it, it is another unit
abbrev pub h265_kind : List ℕ → UnitKind
h265_kind unit =
    if is_set (get_or unit 0 0) 0
    || (not (field (get_or unit 1 0) 7 3 == 0) || (field (get_or unit 1 0) 2 0 == 0))
    then kinds.Other
    else h265_kind_by (field (get_or unit 0 0) 6 1) (field (get_or unit 1 0) 2 0) (get_or unit 2 0)

-- The kind of an H.266 unit of the base layer by its type and the byte behind its header
-- (Recommendation H.266, 7.3.1.2, table 5): a slice that bears the picture header is the first (7.3.7);
-- ph_non_ref_pic_flag is the second bit of that (7.3.2.8); operation points, decoding capabilities,
-- prefix adaptation parameters and SEI, and type 26 stand before slices (7.4.2.4.3).
abbrev pub h266_kind_by : ℕ → ℕ → UnitKind
h266_kind_by type behind =
    if type == 14 then kinds.Vps
    else (if type == 15 then kinds.Sps 0
    else (if type == 16 then kinds.Pps
    else (if type == 19 then kinds.PictureHeader (is_set behind 6)
    else (if type == 20 then kinds.Delimiter
    else (if nat_lt type 4 || (nat_le 7 type && nat_le type 10)
    then kinds.Slice (slice (is_set behind 7) (nat_le 7 type && nat_le type 9)
    (is_set behind 7 && is_set behind 5) 0)
    else (if (type == 12) || ((type == 13) || ((type == 17) || ((type == 23) || (type == 26))))
    then kinds.Prefix else kinds.Other))))))

-- so of what stands from its first byte on; of another layer, and where nuh_temporal_id_plus1 is 0, as
-- no header has it, it is another unit
abbrev pub h266_kind : List ℕ → UnitKind
h266_kind unit =
    if not (field (get_or unit 0 0) 5 0 == 0) || (field (get_or unit 1 0) 2 0 == 0)
    then kinds.Other
    else h266_kind_by (field (get_or unit 1 0) 7 3) (get_or unit 2 0)

-- the kind of a unit, by what is told of its codec
abbrev pub content_kind : CodecExtra → List ℕ → UnitKind
content_kind extras.None unit = kinds.Other
content_kind (extras.H264 told) unit = h264_kind unit
content_kind (extras.H265 told) unit = h265_kind unit
content_kind (extras.H266 told) unit = h266_kind unit

-- that of no units
abbrev pub no_content : Content
no_content = record {
  first = None;
  sets = no_sets;
  highest_layer = 0;
  picture_header = None;
  slice = None;
  numbering = numberings.NotTold;
  head = None;
}

-- the first of kinds
abbrev pub first_kind : Option UnitKind → UnitKind → Option UnitKind
first_kind None kind = Some kind
first_kind (Some first) kind = Some first

-- a slice behind a picture header: that tells whether something refers to the picture, and the slice
-- is the first
abbrev pub slice_behind : Option Bool → Slice → Slice
slice_behind None it = it
slice_behind (Some is_unreferenced) it =
    record it { is_first = true; is_unreferenced = is_unreferenced }

-- what a unit tells beside its kind
abbrev pub telling : Content → UnitKind → Content
telling c kinds.Vps = record c { sets = record c.sets { vps = true } }
telling c (kinds.Sps highest) =
    record c { sets = record c.sets { sps = true }; highest_layer = max c.highest_layer highest }
telling c kinds.Pps = record c { sets = record c.sets { pps = true } }
telling c (kinds.PictureHeader is_unreferenced) =
    record c { picture_header = Some is_unreferenced }
telling c (kinds.Slice it) = record c { slice = Some (slice_behind c.picture_header it) }
telling c kind = c

-- with the kind of a unit more
abbrev pub with_kind : Content → UnitKind → Content
with_kind c kind = telling (record c { first = first_kind c.first kind }) kind

-- the eight bytes behind the header of an H.264 slice, 0 behind the end
abbrev pub slice_head : List ℕ → List ℕ
slice_head unit = get_or unit 1 0 ∷ get_or unit 2 0 ∷ get_or unit 3 0 ∷ get_or unit 4 0
    ∷ get_or unit 5 0 ∷ get_or unit 6 0 ∷ get_or unit 7 0 ∷ get_or unit 8 0 ∷ []

-- what an H.264 unit of a kind tells of frame numbers
abbrev pub telling_frames : UnitKind → List ℕ → Content → Content
telling_frames (kinds.Sps highest) unit c =
    record c { numbering = joined_numbering c.numbering (sps_numbering unit) }
telling_frames (kinds.Slice it) unit c = record c { head = Some (slice_head unit) }
telling_frames kind unit c = c

-- what a unit of a codec tells of them: H.265 and H.266 have no frame numbers
abbrev pub with_frames : CodecExtra → List ℕ → Content → Content
with_frames (extras.H264 told) unit c = telling_frames (h264_kind unit) unit c
with_frames extra unit c = c

-- with a unit more
abbrev pub content_with_unit : CodecExtra → Content → List ℕ → Content
content_with_unit extra c unit = with_frames extra unit (with_kind c (content_kind extra unit))

-- what is told by a slice that is the first unit, behind whose header these bytes stand
abbrev pub slice_content : Slice → Option (List ℕ) → Content
slice_content it head =
    record no_content { first = Some (kinds.Slice it); slice = Some it; head = head }

-- the bytes behind the header of a slice of a codec, where it has frame numbers
abbrev pub told_head : CodecExtra → List ℕ → Option (List ℕ)
told_head (extras.H264 told) unit = Some (slice_head unit)
told_head extra unit = None

-- a length of four bytes, the highest first
abbrev pub length_at : List ℕ → ℕ
length_at text = get_or text 0 0 * 16777216 + get_or text 1 0 * 65536 + get_or text 2 0 * 256
    + get_or text 3 0

-- What stands of a text from its first unit on, and from what precedes the next one on: behind the
-- first start code (Annex B), or behind a length (ISO/IEC 14496-15).
abbrev pub first_unit : Bool → List ℕ → Option (List ℕ × List ℕ)
first_unit false text = option_map (λ unit. (unit, unit)) (behind_first_code text)
first_unit true text =
    if nat_lt (length text) 4 then None
    else Some (drop 4 text, drop (length_at text) (drop 4 text))

-- with the next unit, if there is one, and where that is no slice with those behind it
abbrev pub content_with : CodecExtra → (Content → List ℕ → Content) → Content →
    Option (List ℕ × List ℕ) → Content
content_with extra behind c None = c
content_with extra behind c (Some it) =
    if is_some (content_with_unit extra c it.0).slice then content_with_unit extra c it.0
    else behind (content_with_unit extra c it.0) it.1

-- what is told up to the first slice by as many units of a text at most, each by its kind
abbrev pub content_from : Bool → CodecExtra → ℕ → Content → List ℕ → Content
content_from is_avc extra zero c text = c
content_from is_avc extra (suc count) c text =
    content_with extra (content_from is_avc extra count) c (first_unit is_avc text)

-- what the units of a text tell
abbrev pub content_of : Bool → CodecExtra → List ℕ → Content
content_of is_avc extra text = content_from is_avc extra 64 no_content text
