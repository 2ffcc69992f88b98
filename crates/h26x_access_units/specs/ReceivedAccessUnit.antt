-- Access units as a receiver gives them out (RFC 6184, 5.1; RFC 7798, 4.1; RFC 9328, 4.1; ours).
use Rattle.std.specs.Prelude.{ℕ, Bool, List}
use Rattle.h26x_core.specs.declared.extra.CodecExtra.{CodecExtra}
use Rattle.h26x_assembler.specs.AccessUnit.{AccessUnitValue}
use Rattle.h26x_access_units.specs.declared.numbers.AccessUnitNumbers.{AccessUnitNumbers}
use Rattle.h26x_access_units.specs.declared.content.Content.{Content}
use Rattle.h26x_access_units.specs.declared.decoder.DecoderState.{DecoderState}
use Rattle.h26x_access_units.specs.Content.{content_of}
use Rattle.h26x_access_units.specs.Decoder.{is_disposable, layer_after, tells_whole, shows, decoder_after}
use Rattle.h26x_access_units.specs.declared.unit.ReceivedAccessUnit.{ReceivedAccessUnit}
use Rattle.h26x_access_units.specs.declared.unit.Told.{Told}

-- an access unit as it is given out, its bytes as a list
pub record ReceivedAccessUnitValue : Type 0 where
  pub timestamp : ℕ
  pub bytes : List ℕ
  pub extra : CodecExtra
  pub is_whole : Bool
  pub is_clean : Bool
  pub is_disposable : Bool
  pub continues : Bool
  pub first : ℕ
  pub last : ℕ
  pub missing : ℕ

-- that of the code
abbrev pub received_unit_value : ReceivedAccessUnit → ReceivedAccessUnitValue
received_unit_value unit = record {
  timestamp = unit.timestamp;
  bytes = unit.bytes.items;
  extra = unit.extra;
  is_whole = unit.is_whole;
  is_clean = unit.is_clean;
  is_disposable = unit.is_disposable;
  continues = unit.continues;
  first = unit.first;
  last = unit.last;
  missing = unit.missing;
}

-- what the units of an access unit tell
abbrev pub unit_content : Bool → AccessUnitValue → Content
unit_content is_avc unit = content_of is_avc unit.extra unit.bytes

-- whether an access unit is told to be whole
abbrev pub whole_with : DecoderState → Bool → AccessUnitValue → AccessUnitNumbers → Bool
whole_with d is_avc unit numbers =
    tells_whole d unit.is_whole unit.extra numbers (unit_content is_avc unit)

-- what is known of a decoder once it is given out
abbrev pub decoder_with : DecoderState → Bool → Bool → AccessUnitValue → AccessUnitNumbers →
    DecoderState
decoder_with d has_sets is_avc unit numbers = decoder_after d has_sets unit.is_whole unit.extra
    numbers (unit_content is_avc unit)

-- what is told of an access unit by what is known of a decoder
abbrev pub told_of : DecoderState → Bool → Bool → AccessUnitValue → AccessUnitNumbers → Told
told_of d has_sets is_avc unit numbers = record {
  is_whole = whole_with d is_avc unit numbers;
  is_clean = shows (decoder_with d has_sets is_avc unit numbers) unit.is_whole;
  is_disposable = is_disposable (layer_after d numbers (unit_content is_avc unit))
      (unit_content is_avc unit).slice;
}

-- an access unit with what is told of it and its numbers
abbrev pub unit_with : Told → AccessUnitValue → AccessUnitNumbers → ReceivedAccessUnitValue
unit_with told unit numbers = record {
  timestamp = unit.timestamp;
  bytes = unit.bytes;
  extra = unit.extra;
  is_whole = told.is_whole;
  is_clean = told.is_clean;
  is_disposable = told.is_disposable;
  continues = numbers.continues;
  first = numbers.first;
  last = numbers.last;
  missing = numbers.missing;
}

-- as it is given out by what is known of a decoder
abbrev pub received_unit : DecoderState → Bool → Bool → AccessUnitValue → AccessUnitNumbers →
    ReceivedAccessUnitValue
received_unit d has_sets is_avc unit numbers =
    unit_with (told_of d has_sets is_avc unit numbers) unit numbers
