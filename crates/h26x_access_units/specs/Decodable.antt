-- What a decoder can decode that is given access units one after the other, by the whole list of them
-- (the video standards' sections on the decoding of keyframes and on pictures that nothing refers to).
use Rattle.std.specs.Prelude.{◌≡◌, ◌↔◌, ◌⊎◌, ℕ, ◌==◌, Bool, true, false, if◌then◌else◌, List, [], ◌∷◌, ◌++◌, Option, Some, None}
use Rattle.h26x_core.specs.declared.extra.CodecExtra.{CodecExtra}
use Rattle.h26x_core.specs.declared.extra.CodecExtra.TheVariants as extras
use Rattle.h26x_access_units.specs.declared.content.ParameterSets.{ParameterSets}
use Rattle.h26x_access_units.specs.declared.content.Content.{Content}
use Rattle.h26x_access_units.specs.declared.decoder.DecoderState.{DecoderState}
use Rattle.h26x_access_units.specs.declared.numbers.AccessUnitNumbers.{AccessUnitNumbers}
use Rattle.h26x_assembler.specs.AccessUnit.{AccessUnitValue}
use Rattle.h26x_access_units.specs.ReceivedAccessUnit.{ReceivedAccessUnitValue, unit_content}
use Rattle.h26x_access_units.specs.Reception.{Reception}
use Rattle.h26x_access_units.specs.declared.frame_number.Numbering.{Numbering}
use Rattle.h26x_access_units.specs.declared.frame_number.Numbering.TheVariants as numberings
use Rattle.h26x_access_units.specs.FrameNumber.{joined_numbering, tells_none_lost}
use Rattle.h26x_access_units.specs.Decoder.{fresh_decoder, is_first_key, is_first_other, is_disposable, head_after, long_key_after, decoder_after, shows}

-- an access unit as a receiver gives it out: whether nothing is missing in it from its first packet
-- that came on, what is told of its codec, its numbers, and what its units tell
pub record GivenUnit : Type 0 where
  pub is_unbroken : Bool
  pub extra : CodecExtra
  pub numbers : AccessUnitNumbers
  pub content : Content

-- what is known of a decoder behind these, the last one first
abbrev pub decoder_behind : Bool → List GivenUnit → DecoderState
decoder_behind has_sets [] = fresh_decoder
decoder_behind has_sets (u ∷ before) = decoder_after (decoder_behind has_sets before) has_sets
    u.is_unbroken u.extra u.numbers u.content

-- A kind of parameter set came in order: the last one is unbroken and has one, or it is unbroken and
-- follows others of which one has it so.
pub data HasCome (kind : ParameterSets → Bool) : List GivenUnit → Type 0 where
  in_last : {u : GivenUnit} {before : List GivenUnit} → u.is_unbroken ≡ true →
      kind u.content.sets ≡ true → HasCome kind (u ∷ before)
  in_earlier : {u : GivenUnit} {before : List GivenUnit} → u.is_unbroken ≡ true →
      u.numbers.follows ≡ true → HasCome kind before → HasCome kind (u ∷ before)

-- a picture parameter set and a sequence parameter set came so
pub record HaveTwoSetsCome (units : List GivenUnit) : Type 0 where
  pub sps : HasCome (λ sets. sets.sps) units
  pub pps : HasCome (λ sets. sets.pps) units

-- what a decoder of a codec needs came so: of H.265 a video parameter set too
abbrev pub HaveSetsCome : CodecExtra → List GivenUnit → Type 0
HaveSetsCome extras.None units = ⊥
HaveSetsCome (extras.H264 told) units = HaveTwoSetsCome units
HaveSetsCome (extras.H265 told) units = HasCome (λ sets. sets.vps) units × HaveTwoSetsCome units
HaveSetsCome (extras.H266 told) units = HaveTwoSetsCome units

-- the highest temporal layer that sequence parameter sets tell, where no number is missing between
-- access units since
abbrev pub known_layer : List GivenUnit → ℕ
known_layer [] = 0
known_layer (u ∷ before) =
    if u.content.highest_layer == 0 then (if u.numbers.follows then known_layer before else 0)
    else u.content.highest_layer

-- what all sequence parameter sets of H.264 tell of frame numbers that came
abbrev pub known_numbering : List GivenUnit → Numbering
known_numbering [] = numberings.NotTold
known_numbering (u ∷ before) = joined_numbering (known_numbering before) u.content.numbering

-- the bytes behind the header of the first slice of the last reference picture, where they are known
abbrev pub known_head : List GivenUnit → Option (List ℕ)
known_head [] = None
known_head (u ∷ before) = head_after (known_head before) u.is_unbroken u.numbers u.content

-- whether the last keyframe took more packets than one
abbrev pub has_long_key : List GivenUnit → Bool
has_long_key [] = false
has_long_key (u ∷ before) = long_key_after (has_long_key before) u.numbers u.content.slice

-- A decoder can begin with an access unit behind others: it is whole from its first slice on, which is
-- that of a keyframe, and the parameter sets came in order, or the decoder has them.
pub record BeginsDecoding (has_sets : Bool) (u : GivenUnit) (before : List GivenUnit) : Type 0 where
  pub unbroken : u.is_unbroken ≡ true
  pub own : u.numbers.continues ≡ false
  pub key : is_first_key u.content.slice ≡ true
  pub sets : (has_sets ≡ true) ⊎ HaveSetsCome u.extra (u ∷ before)

-- Frame numbers of H.264 tell that no reference picture is among what is missing before an access unit
-- (7.4.3): it begins with the first slice of a picture, and all that is missing is counted; sets came
-- in band, and all tell the same.
pub record IsBehindNoLoss (has_sets : Bool) (u : GivenUnit) (before : List GivenUnit) : Type 0 where
  pub in_band : has_sets ≡ false
  pub counted : u.numbers.is_counted ≡ true
  pub own : u.numbers.continues ≡ false
  pub first : is_first_other u.content.slice ≡ true
  pub told : tells_none_lost (known_numbering (u ∷ before)) (has_long_key before) (known_head before)
      u.content.head u.numbers.missing ≡ true

-- A decoder goes on behind an access unit: no number is missing before it, or no reference picture; and
-- it is unbroken, or no picture refers to its own.
pub record GoesOnDecoding (has_sets : Bool) (u : GivenUnit) (before : List GivenUnit) : Type 0 where
  pub reached : (u.numbers.follows ≡ true) ⊎ IsBehindNoLoss has_sets u before
  pub kept : (u.is_unbroken ≡ true)
      ⊎ (is_disposable (known_layer (u ∷ before)) u.content.slice ≡ true)

-- Behind these a decoder goes on: there is one with which it can begin, and behind each since it
-- goes on.
pub data IsDecodable (has_sets : Bool) : List GivenUnit → Type 0 where
  begins : {u : GivenUnit} {before : List GivenUnit} → BeginsDecoding has_sets u before →
      IsDecodable has_sets (u ∷ before)
  goes_on : {u : GivenUnit} {before : List GivenUnit} → IsDecodable has_sets before →
      GoesOnDecoding has_sets u before → IsDecodable has_sets (u ∷ before)

-- the last one is told clean where a decoder goes on behind it, and it is unbroken, and nowhere else
abbrev pub IsCleanWhereDecodable : Bool → GivenUnit → List GivenUnit → Type 0
IsCleanWhereDecodable has_sets u before =
    (shows (decoder_behind has_sets (u ∷ before)) u.is_unbroken ≡ true)
    ↔ ((u.is_unbroken ≡ true) × IsDecodable has_sets (u ∷ before))

-- what is given of an access unit to a decoder
abbrev pub given_unit : Bool → AccessUnitValue → AccessUnitNumbers → GivenUnit
given_unit is_avc unit numbers = record {
  is_unbroken = unit.is_whole;
  extra = unit.extra;
  numbers = numbers;
  content = unit_content is_avc unit;
}

-- these were given to the decoder that a receiver knows of, the last one first: those that it gave out,
-- and those without bytes that it passed over
abbrev pub WereGiven : List GivenUnit → Reception → Type 0
WereGiven units s = s.decoder ≡ decoder_behind s.waiting.config.has_sets units

-- what is given out is told clean exactly where the last of these, which has its units, can be decoded
abbrev pub IsToldClean : Bool → Option ReceivedAccessUnitValue → List GivenUnit → Type 0
IsToldClean has_sets None units = Unit {0}
IsToldClean has_sets (Some unit) [] = ⊥
IsToldClean has_sets (Some unit) (u ∷ before) = (u.extra ≡ unit.extra)
    × ((unit.is_clean ≡ true) ↔ ((u.is_unbroken ≡ true) × IsDecodable has_sets (u ∷ before)))

-- Behind what was given before, what `next` gives out is told clean exactly where it can be decoded.
pub record IsGivenBehind (units : List GivenUnit) (new : Reception)
    (unit : Option ReceivedAccessUnitValue) : Type 0 where
  pub later : List GivenUnit
  pub given : WereGiven (later ++ units) new
  pub told : IsToldClean new.waiting.config.has_sets unit (later ++ units)
