-- Units of a keyframe that a packet begins.
use Rattle.std.proofs.Common.{◌≡◌, ◌∙◌, refl, arith, ℕ, ◌+◌, ◌≤◌, ◌<◌, Bool, true, false, List, [], ◌∷◌, ◌++◌, length, map, take}
use Rattle.std.specs.Prelude.{◌&&◌, ◌||◌, if◌then◌else◌, IsTrue}
use Rattle.std.specs.List.{list_any}
use Rattle.h26x_model.specs.Payload.Format.{donl}
use Rattle.h26x_model.specs.Payload.Don.{with_dons}
use Rattle.h26x_model.specs.Send.Packets.{single_packet}
use Rattle.h26x_model.specs.Payload.Facts.{AreCarried, ReadsWhatItWrites}
use Rattle.h26x_codec.specs.Codec.{codec_format}
use Rattle.h26x_codec.specs.Keyframe.{is_key_unit, begins_key_unit, every_format, TellsKeyUnits}
use Rattle.h26x_codec.specs.declared.codec.Codec.{Codec}
use Rattle.h26x_codec.specs.declared.codec.Codec.TheVariants as c

-- a unit with a whole header is a key unit by its first bytes where it is one, also by its header alone
-- and whatever stands behind that
head_tells : (codec : Codec) (has_donl : Bool) (unit body : List ℕ) →
    (every_format codec has_donl).header_len ≤ length unit →
    is_key_unit codec (take (every_format codec has_donl).header_len unit ++ body)
    ≡ (every_format codec has_donl).is_key unit
head_tells c.H264 has_donl [] body whole = absurd (omega (arith, whole))
head_tells c.H264 has_donl (first ∷ unit) body whole = refl
head_tells c.H265 has_donl [] body whole = absurd (omega (arith, whole))
head_tells c.H265 has_donl (high ∷ []) body whole = absurd (omega (arith, whole))
head_tells c.H265 has_donl (high ∷ low ∷ unit) body whole = refl
head_tells c.H266 has_donl [] body whole = absurd (omega (arith, whole))
head_tells c.H266 has_donl (high ∷ []) body whole = absurd (omega (arith, whole))
head_tells c.H266 has_donl (high ∷ low ∷ unit) body whole = refl

-- so of the unit itself
unit_tells : (codec : Codec) (has_donl : Bool) (unit : List ℕ) →
    (every_format codec has_donl).header_len ≤ length unit →
    is_key_unit codec unit ≡ (every_format codec has_donl).is_key unit
unit_tells c.H264 has_donl [] whole = absurd (omega (arith, whole))
unit_tells c.H264 has_donl (first ∷ unit) whole = refl
unit_tells c.H265 has_donl [] whole = absurd (omega (arith, whole))
unit_tells c.H265 has_donl (high ∷ []) whole = absurd (omega (arith, whole))
unit_tells c.H265 has_donl (high ∷ low ∷ unit) whole = refl
unit_tells c.H266 has_donl [] whole = absurd (omega (arith, whole))
unit_tells c.H266 has_donl (high ∷ []) whole = absurd (omega (arith, whole))
unit_tells c.H266 has_donl (high ∷ low ∷ unit) whole = refl

-- so of units with their numbers
units_tell : (codec : Codec) (has_donl : Bool) → ReadsWhatItWrites (every_format codec has_donl) →
    (n : ℕ) (units : List (List ℕ)) → AreCarried (every_format codec has_donl) units →
    list_any (is_key_unit codec) (map (λ u. u.0) (with_dons (every_format codec has_donl) n units))
    ≡ list_any (every_format codec has_donl).is_key units
units_tell codec has_donl reads n [] carried = refl
units_tell codec has_donl reads n (unit ∷ units) carried =
    rw (unit_tells codec has_donl unit (reads.header unit carried.0))
    rw (units_tell codec has_donl reads (n + 1) units carried.1) refl

-- what a codec's packets are read as where every unit goes, as where sets wait
same_reading : (codec : Codec) (has_donl : Bool) (packet : List ℕ) →
    (codec_format codec has_donl).read packet ≡ (every_format codec has_donl).read packet
same_reading c.H264 has_donl packet = refl
same_reading c.H265 has_donl packet = refl
same_reading c.H266 has_donl packet = refl

or_false : (b : Bool) → b || false ≡ b
or_false true = refl
or_false false = refl

fragment_tells : (codec : Codec) (has_donl : Bool) → ReadsWhatItWrites (every_format codec has_donl) →
    (n : ℕ) (unit body : List ℕ) (start end : Bool) → IsTrue ((every_format codec has_donl).carries unit) →
    0 < length body → begins_key_unit codec has_donl ((every_format codec has_donl).fragment_header unit start end
    ++ ((if start then donl (every_format codec has_donl) n else []) ++ body))
    ≡ (start && (every_format codec has_donl).is_key unit)
fragment_tells codec has_donl reads n unit body true end one some =
    rw (same_reading codec has_donl ((every_format codec has_donl).fragment_header unit true end
    ++ (donl (every_format codec has_donl) n ++ body)))
    rw (reads.fragment n unit body true end one some)
    (or_false (is_key_unit codec (take (every_format codec has_donl).header_len unit ++ body))
    ∙ head_tells codec has_donl unit body (reads.header unit one))
fragment_tells codec has_donl reads n unit body false end one some =
    rw (same_reading codec has_donl ((every_format codec has_donl).fragment_header unit false end ++ ([] ++ body)))
    rw (reads.fragment n unit body false end one some) refl

pub tells_key_units : (codec : Codec) (has_donl : Bool) → ReadsWhatItWrites (every_format codec has_donl) →
    TellsKeyUnits codec has_donl (every_format codec has_donl)
tells_key_units codec has_donl reads = record {
  together = λ n limit units unit is_limit fit some carried one.
      rw (same_reading codec has_donl ((every_format codec has_donl).sets_packet n units unit))
      rw (reads.sets n limit units unit is_limit fit some carried one)
      (units_tell codec has_donl reads n units carried);
  alone = λ n unit one.
      rw (same_reading codec has_donl (single_packet (every_format codec has_donl) n unit))
      rw (reads.single n unit one)
      (or_false (is_key_unit codec unit) ∙ unit_tells codec has_donl unit (reads.header unit one));
  fragment = fragment_tells codec has_donl reads;
}
