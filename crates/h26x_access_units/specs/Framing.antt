-- Where access units begin and end: by their timestamps and markers, and by what their units are (the
-- video standards' sections on the order of NAL units; ours).
use Rattle.std.specs.Prelude.{ℕ, nat_le, Bool, true, false, not, ◌&&◌, ◌||◌, if◌then◌else◌, List, get_or, Option, Some, None}
use Rattle.std.specs.List.{list_any}
use Rattle.std.specs.Option.{option_map}
use Rattle.h26x_core.specs.Word.{field}
use Rattle.h26x_core.specs.declared.error.PacketError.{PacketError}
use Rattle.h26x_core.specs.declared.error.PacketError.TheVariants as errors
use Rattle.h26x_core.specs.declared.extra.CodecExtra.{CodecExtra}
use Rattle.h26x_core.specs.declared.extra.CodecExtra.TheVariants as extras
use Rattle.h26x_model.specs.Payload.Format.{Format}
use Rattle.h26x_depacketizer.specs.Look.{first_bytes, borne_units, begun_units, first_unit_of}
use Rattle.h26x_access_units.specs.declared.content.UnitKind.{UnitKind}
use Rattle.h26x_access_units.specs.declared.content.UnitKind.TheVariants as kinds
use Rattle.h26x_access_units.specs.declared.framing.Framing.{Framing}
use Rattle.h26x_access_units.specs.declared.framing.Shown.{Shown}
use Rattle.h26x_access_units.specs.Content.{content_kind}

-- whether a unit is a slice
abbrev pub is_slice_kind : UnitKind → Bool
is_slice_kind (kinds.Slice it) = true
is_slice_kind kind = false

-- whether a unit begins an access unit where it stands behind a slice: a delimiter, parameter sets, a
-- picture header, others that precede slices, and the first slice of a picture (H.264, 7.4.1.2.3 and
-- 7.4.1.2.4; H.265, 7.4.2.4.4; H.266, 7.4.2.4.3)
abbrev pub begins_behind_slice : Option UnitKind → Bool
begins_behind_slice None = false
begins_behind_slice (Some kinds.Other) = false
begins_behind_slice (Some (kinds.Slice it)) = it.is_first
begins_behind_slice (Some kind) = true

-- whether a unit goes on with a picture: it is a slice, and not its first
abbrev pub goes_on_with : Option UnitKind → Bool
goes_on_with None = false
goes_on_with (Some (kinds.Slice it)) = not it.is_first
goes_on_with (Some kind) = false

-- what a packet of a format shows: whether it bears something of a slice, and the kind of the first
-- unit that it begins
abbrev pub shown_by : Format → List ℕ → Shown
shown_by f packet = record {
  has_slice = list_any (λ unit. is_slice_kind (content_kind (f.extra false) (first_bytes unit)))
      (borne_units (f.read packet));
  first = option_map (content_kind (f.extra false))
      (option_map first_bytes (first_unit_of (begun_units (f.read packet))));
}

-- before any packet
abbrev pub fresh_framing : Framing
fresh_framing = record {
  has_slice = false;
  is_marked = false;
  marks_slices = false;
  stands_still = false;
}

-- whether markers tell where access units end, so that nothing else is asked
abbrev pub trusts_markers : Framing → Bool
trusts_markers it = it.is_marked && (not it.marks_slices && not it.stands_still)

-- whether the access unit that is open ends before a packet of its timestamp: no marker tells it, a
-- slice of it came, and the packet begins with what begins an access unit behind a slice
abbrev pub ends_by_content : Framing → Shown → Bool
ends_by_content it shown =
    not (trusts_markers it) && (it.has_slice && begins_behind_slice shown.first)

-- With a packet that is taken: whether the access unit that is open has its timestamp, and whether the
-- one that ended right before has it. A slice that goes on with a picture whose access unit a marker
-- ended shows that the sender marks each slice; what begins an access unit there shows that timestamps
-- stand still.
abbrev pub framing_with : Framing → Bool → Bool → Shown → Framing
framing_with it is_open is_closed shown = record {
  has_slice = (is_open && it.has_slice) || shown.has_slice;
  is_marked = it.is_marked;
  marks_slices = it.marks_slices || (is_closed && goes_on_with shown.first);
  stands_still = if is_open then it.stands_still
      else is_closed && begins_behind_slice shown.first;
}

-- whether a marker is believed: a slice of its access unit came, and the sender doesn't mark each slice
abbrev pub believes : Framing → Bool → Bool
believes it marker = marker && (it.has_slice && not it.marks_slices)

-- once a packet was taken, whose marker is believed or isn't
abbrev pub framing_marked : Framing → Bool → Framing
framing_marked it marker = record it { is_marked = it.is_marked || marker }

-- whether a unit is an end of sequence or of the bitstream, by its header, of H.265 (table 7-1) or
-- H.266 (table 5), whose two bytes are all of it
abbrev pub is_end_unit : CodecExtra → List ℕ → Bool
is_end_unit extras.None unit = false
is_end_unit (extras.H264 told) unit = false
is_end_unit (extras.H265 told) unit =
    nat_le 36 (field (get_or unit 0 0) 6 1) && nat_le (field (get_or unit 0 0) 6 1) 37
is_end_unit (extras.H266 told) unit =
    nat_le 21 (field (get_or unit 1 0) 7 3) && nat_le (field (get_or unit 1 0) 7 3) 22

-- Whether a packet that is refused bears nothing that is to be written: its type carries no unit of
-- this stream (of RFC 6184 a STAP-B, an MTAP, an FU-B, a PACSI), or it is an end of sequence or of the
-- bitstream of two bytes.
abbrev pub bears_no_unit : CodecExtra → PacketError → List ℕ → Bool
bears_no_unit extra (errors.NaluTypeIsNotHandled type) packet = true
bears_no_unit extra errors.ErrShortPacket packet = is_end_unit extra packet
bears_no_unit extra error packet = false
