-- Units of a keyframe that a packet begins (RFC 6184, 5; RFC 7798, 4.4; RFC 9328, 4.3).
use Rattle.std.specs.Prelude.{◌≡◌, ℕ, ◌<◌, ◌≤◌, Bool, true, false, ◌&&◌, if◌then◌else◌, List, [], ◌++◌, length, IsTrue}
use Rattle.std.specs.List.{list_any}
use Rattle.h26x_model.specs.Payload.Format.{Format, IsLimit, donl}
use Rattle.h26x_model.specs.Payload.Facts.{AreCarried}
use Rattle.h26x_model.specs.Send.Packets.{single_packet}
use Rattle.h26x_depacketizer.specs.Look.{first_bytes, begun_units}
use Rattle.h264_payload.specs.EveryUnit.{h264_every}
use Rattle.h265_payload.specs.EveryUnit.{h265_every}
use Rattle.h266_payload.specs.EveryUnit.{h266_every}
use Rattle.h26x_codec.specs.Codec.{codec_format}
use Rattle.h26x_codec.specs.declared.codec.Codec.{Codec}
use Rattle.h26x_codec.specs.declared.codec.Codec.TheVariants as c

-- whether a unit is a key unit, by its first bytes
abbrev pub is_key_unit : Codec → List ℕ → Bool
is_key_unit codec unit = (codec_format codec false).is_key (first_bytes unit)

-- whether a packet begins a key unit: it holds one, or is its first fragment
abbrev pub begins_key_unit : Codec → Bool → List ℕ → Bool
begins_key_unit codec has_donl packet =
    list_any (is_key_unit codec) (begun_units ((codec_format codec has_donl).read packet))

-- the format of a codec where every unit goes
abbrev pub every_format : Codec → Bool → Format
every_format c.H264 has_donl = h264_every
every_format c.H265 has_donl = h265_every has_donl
every_format c.H266 has_donl = h266_every has_donl

-- Of what is sent of units that packets can carry an aggregate tells of a keyframe where one of its
-- units is a key unit, a unit alone where it is one, and of one in fragments the first alone.
pub record TellsKeyUnits (codec : Codec) (has_donl : Bool) (f : Format) : Type 0 where
  pub together : (n limit : ℕ) (units : List (List ℕ)) (unit : List ℕ) → IsLimit f limit →
      f.sets_fit limit units ≡ true → 2 ≤ length units → AreCarried f units →
      IsTrue (f.carries unit) →
      begins_key_unit codec has_donl (f.sets_packet n units unit) ≡ list_any f.is_key units
  pub alone : (n : ℕ) (unit : List ℕ) → IsTrue (f.carries unit) →
      begins_key_unit codec has_donl (single_packet f n unit) ≡ f.is_key unit
  pub fragment : (n : ℕ) (unit body : List ℕ) (start end : Bool) → IsTrue (f.carries unit) →
      0 < length body → begins_key_unit codec has_donl (f.fragment_header unit start end
      ++ ((if start then donl f n else []) ++ body)) ≡ (start && f.is_key unit)
