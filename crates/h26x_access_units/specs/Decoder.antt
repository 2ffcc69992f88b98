-- What is known of a decoder that is given access units, one after the other (the video standards'
-- sections on the decoding of keyframes and on pictures that nothing refers to; ours).
use Rattle.std.specs.Prelude.{ℕ, ◌==◌, Bool, true, false, not, ◌&&◌, ◌||◌, if◌then◌else◌, List, Option, Some, None}
use Rattle.h26x_core.specs.declared.extra.CodecExtra.{CodecExtra}
use Rattle.h26x_core.specs.declared.extra.CodecExtra.TheVariants as extras
use Rattle.h26x_access_units.specs.declared.content.ParameterSets.{ParameterSets}
use Rattle.h26x_access_units.specs.declared.content.Slice.{Slice}
use Rattle.h26x_access_units.specs.declared.content.UnitKind.{UnitKind}
use Rattle.h26x_access_units.specs.declared.content.UnitKind.TheVariants as kinds
use Rattle.h26x_access_units.specs.declared.content.Content.{Content}
use Rattle.h26x_access_units.specs.declared.decoder.DecoderState.{DecoderState}
use Rattle.h26x_access_units.specs.declared.numbers.AccessUnitNumbers.{AccessUnitNumbers}
use Rattle.h26x_access_units.specs.declared.frame_number.Numbering.TheVariants as numberings
use Rattle.h26x_access_units.specs.Content.{no_sets, joined_sets}
use Rattle.h26x_access_units.specs.FrameNumber.{joined_numbering, tells_none_lost}

-- before any access unit
abbrev pub fresh_decoder : DecoderState
fresh_decoder = record {
  is_clean = false;
  sets = no_sets;
  highest_layer = 0;
  numbering = numberings.NotTold;
  last_head = None;
  has_long_key = false;
  has_begun = false;
}

-- whether a decoder needs no other parameter sets: H.265 has three kinds, and of H.264 and H.266 two
-- are needed (a VPS of H.266 may be absent)
abbrev pub are_enough : CodecExtra → ParameterSets → Bool
are_enough extras.None sets = false
are_enough (extras.H264 told) sets = sets.sps && sets.pps
are_enough (extras.H265 told) sets = sets.vps && (sets.sps && sets.pps)
are_enough (extras.H266 told) sets = sets.sps && sets.pps

-- whether a sequence parameter set stands at the front of the first access unit: of H.265 a VPS stands
-- before it
abbrev pub is_sps_front : DecoderState → CodecExtra → Bool
is_sps_front d (extras.H265 told) = false
is_sps_front d extra = not d.has_begun

-- Whether the first unit of an access unit is taken for the front of what was sent: a delimiter is
-- (H.264, 7.4.1.2.3; H.265, 7.4.2.4.4; H.266, 7.4.2.4.3 and 7.4.2.4.4), and in the first access unit a
-- VPS, of H.264 and H.266 an SPS too (ours: something may stand before these).
abbrev pub is_front : DecoderState → CodecExtra → Option UnitKind → Bool
is_front d extra None = false
is_front d extra (Some kinds.Delimiter) = true
is_front d extra (Some kinds.Vps) = not d.has_begun
is_front d extra (Some (kinds.Sps highest)) = is_sps_front d extra
is_front d extra (Some kind) = false

-- whether a slice is the first of a keyframe
abbrev pub is_first_key : Option Slice → Bool
is_first_key None = false
is_first_key (Some it) = it.is_first && it.is_key

-- whether no picture refers to that of a slice, where this is the highest temporal layer: none of its
-- own layer does, and there is none above it
abbrev pub is_disposable : ℕ → Option Slice → Bool
is_disposable highest None = false
is_disposable highest (Some it) =
    it.is_unreferenced && (not it.is_key && ((it.layer == 0) || (it.layer == highest)))

-- the sets that came in order before an access unit: none where numbers are missing before it
abbrev pub sets_before : DecoderState → AccessUnitNumbers → ParameterSets
sets_before d numbers = if numbers.follows then d.sets else no_sets

-- those that came in order, with its own: none where something is missing in it
abbrev pub sets_after : DecoderState → Bool → AccessUnitNumbers → Content → ParameterSets
sets_after d is_unbroken numbers content =
    if is_unbroken then joined_sets (sets_before d numbers) content.sets else no_sets

-- the highest temporal layer that sequence parameter sets tell: its own, or those of the last one that
-- had some, where no number is missing between access units since
abbrev pub layer_after : DecoderState → AccessUnitNumbers → Content → ℕ
layer_after d numbers content =
    if content.highest_layer == 0 then (if numbers.follows then d.highest_layer else 0)
    else content.highest_layer

-- Whether a decoder can begin with an access unit: nothing is missing in it from its first packet that
-- came, its first slice is the first of a keyframe, and the parameter sets came in it or before it in
-- order, or the decoder has them.
abbrev pub can_begin : DecoderState → Bool → Bool → CodecExtra → AccessUnitNumbers → Content → Bool
can_begin d has_sets is_unbroken extra numbers content =
    is_unbroken && (not numbers.continues && (is_first_key content.slice
    && (has_sets || are_enough extra (sets_after d is_unbroken numbers content))))

-- The bytes behind the header of the first slice of the last reference picture, which a decoder has
-- that can go on: those of an access unit, or where no picture refers to its own those known before.
-- Not known behind a picture of which a part is missing or may be, or of which nothing is known.
abbrev pub head_after_slice : Bool → Bool → Option (List ℕ) → Option (List ℕ) → Option Slice →
    Option (List ℕ)
head_after_slice is_unbroken is_counted own before None = None
head_after_slice is_unbroken is_counted own before (Some it) =
    if it.is_unreferenced && not it.is_key then (if is_counted then before else None)
    else (if is_unbroken && it.is_first then own else None)

-- so of an access unit
abbrev pub head_after : Option (List ℕ) → Bool → AccessUnitNumbers → Content → Option (List ℕ)
head_after before is_unbroken numbers content =
    head_after_slice is_unbroken numbers.is_counted content.head before content.slice

-- whether the last keyframe took more packets than one
abbrev pub long_key_after : Bool → AccessUnitNumbers → Option Slice → Bool
long_key_after before numbers None = before
long_key_after before numbers (Some it) =
    if it.is_key then not (numbers.first == numbers.last) else before

-- whether a slice is the first of a picture that is no keyframe
abbrev pub is_first_other : Option Slice → Bool
is_first_other None = false
is_first_other (Some it) = it.is_first && not it.is_key

-- Whether frame numbers of H.264 tell that no reference picture is among what is missing before an
-- access unit (`tells_none_lost`): all sets came in band, all that is missing is counted, and it begins
-- with the first slice of a picture.
abbrev pub is_behind_no_loss : DecoderState → Bool → AccessUnitNumbers → Content → Bool
is_behind_no_loss d has_sets numbers content = not has_sets && (numbers.is_counted
    && (not numbers.continues && (is_first_other content.slice
    && tells_none_lost (joined_numbering d.numbering content.numbering) d.has_long_key d.last_head
    content.head numbers.missing)))

-- Whether one that could go on before an access unit can go on behind it: nothing is missing before
-- it, or no reference picture; nor in it, or no picture refers to its own.
abbrev pub can_go_on : DecoderState → Bool → Bool → AccessUnitNumbers → Content → Bool
can_go_on d has_sets is_unbroken numbers content =
    d.is_clean && ((numbers.follows || is_behind_no_loss d has_sets numbers content)
    && (is_unbroken || is_disposable (layer_after d numbers content) content.slice))

-- Whether an access unit is told to be whole: nothing is missing from its first packet that came on;
-- that follows the packet before, or its first unit stands at the front of an access unit; and it
-- doesn't go on with another one.
abbrev pub tells_whole : DecoderState → Bool → CodecExtra → AccessUnitNumbers → Content → Bool
tells_whole d is_unbroken extra numbers content = is_unbroken
    && (not numbers.continues && (numbers.follows || is_front d extra content.first))

-- whether a decoder can show an access unit behind which it is so: nothing is missing in that
abbrev pub shows : DecoderState → Bool → Bool
shows d is_unbroken = is_unbroken && d.is_clean

-- once an access unit is given out
abbrev pub decoder_after : DecoderState → Bool → Bool → CodecExtra → AccessUnitNumbers → Content →
    DecoderState
decoder_after d has_sets is_unbroken extra numbers content = record {
  is_clean = can_begin d has_sets is_unbroken extra numbers content
      || can_go_on d has_sets is_unbroken numbers content;
  sets = sets_after d is_unbroken numbers content;
  highest_layer = layer_after d numbers content;
  numbering = joined_numbering d.numbering content.numbering;
  last_head = head_after d.last_head is_unbroken numbers content;
  has_long_key = long_key_after d.has_long_key numbers content.slice;
  has_begun = true;
}
