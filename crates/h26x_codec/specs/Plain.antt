-- Plain units: NAL units of the video itself, in whose Annex B text no reader finds other units.
use Rattle.std.specs.Prelude.{◌≡◌, ℕ, ◌≤◌, nat_le, IsTrue, Bool, false, not, ◌&&◌, List, ◌∷◌, ◌++◌, length}
use Rattle.std.specs.List.{AllByRecursion}
use Rattle.h26x_core.specs.ByteStream.{annex_b}
use Rattle.h26x_core.specs.Word.{is_set}
use Rattle.h26x_core.specs.H264Unit as h264
use Rattle.h26x_core.specs.H265Unit as h265
use Rattle.h26x_core.specs.H266Unit as h266
use Rattle.h26x_cut.specs.Cutting.{HoldsStartCode, EndsInZero}
use Rattle.h26x_model.specs.Payload.Format.{Format}
use Rattle.h26x_model.specs.Receive.Outcome.{is_too_long}
use Rattle.h26x_codec.specs.declared.codec.Codec.{Codec}
use Rattle.h26x_codec.specs.declared.codec.Codec.TheVariants as c

-- 00 00 and this byte stand somewhere in the bytes
abbrev pub HoldsBehindZeros : ℕ → List ℕ → Type 0
HoldsBehindZeros byte bytes = (before after : List ℕ) × (bytes ≡ before ++ 0 ∷ 0 ∷ byte ∷ after)

-- A unit ends at a place of a text, to a reader of Annex B: 00 00 00 or 00 00 01 begins there
-- (H.264, B.2; H.265 and H.266, B.3).
abbrev pub EndsUnitAt : List ℕ → ℕ → Type 0
EndsUnitAt text place = (before after : List ℕ) × (byte : ℕ) × (byte ≤ 1)
    × (text ≡ before ++ 0 ∷ 0 ∷ byte ∷ after) × (place ≡ length before)

-- bytes within which no unit ends, and whose last one isn't taken for a zero of the start code behind
-- them (H.264, 7.4.1; H.265 and H.266, 7.4.2)
pub record IsPlainText (bytes : List ℕ) : Type 0 where
  pub no_code : ¬ HoldsStartCode bytes
  pub no_zeros : ¬ HoldsBehindZeros 0 bytes
  pub no_zero_last : ¬ EndsInZero bytes

-- H.264: F is clear, and the type is one of 1 to 23. Of 0 and 24 to 31, which the video leaves to
-- others, RFC 6184 takes 24 to 29 for its packets (table 7-1; RFC 6184, 5.2, table 1).
abbrev pub is_plain_h264 : ℕ → Bool
is_plain_h264 header =
    not (is_set header 7) && nat_le 1 (h264.type_of header) && nat_le (h264.type_of header) 23

-- H.265: F is clear, and the type is one of 0 to 47. Of those above, which the video leaves to
-- others, RFC 7798 takes 48 to 50 (table 7-1; RFC 7798, 4.4.2 to 4.4.4).
abbrev pub is_plain_h265 : ℕ → Bool
is_plain_h265 high = not (h265.is_forbidden high) && nat_le (h265.type_of high) 47

-- H.266: F and Z are clear, and the type is one of 0 to 27. Of those above, which the video leaves to
-- others, RFC 9328 takes 28 and 29 (table 5; RFC 9328, 1.1.4, 4.3.2 and 4.3.3).
abbrev pub is_plain_h266 : ℕ → ℕ → Bool
is_plain_h266 high low =
    not (h266.is_forbidden high) && not (h266.is_reserved high) && nat_le (h266.type_of low) 27

-- a unit has its whole header, of one byte or two, and that is of a unit of the video itself
abbrev pub has_plain_header : Codec → List ℕ → Bool
has_plain_header c.H264 (header ∷ unit) = is_plain_h264 header
has_plain_header c.H265 (high ∷ low ∷ unit) = is_plain_h265 high
has_plain_header c.H266 (high ∷ low ∷ unit) = is_plain_h266 high low
has_plain_header codec unit = false

-- a plain unit of a codec
pub record IsPlainUnit (codec : Codec) (unit : List ℕ) : Type 0 where
  pub header : IsTrue (has_plain_header codec unit)
  pub text : IsPlainText unit

-- plain units of a codec
abbrev pub ArePlainUnits : Codec → List (List ℕ) → Type 0
ArePlainUnits codec units = AllByRecursion (IsPlainUnit codec) units

-- of the Annex B text of plain units a format reads exactly these units
abbrev pub ReadsPlainUnits : Codec → Format → Type 0
ReadsPlainUnits codec f = (units : List (List ℕ)) → ArePlainUnits codec units →
    f.units (annex_b units) ≡ units

-- the length of each unit fits four bytes (ISO/IEC 14496-15)
abbrev pub EachFitsAvcLength : List (List ℕ) → Type 0
EachFitsAvcLength units = AllByRecursion (λ unit. is_too_long unit ≡ false) units
