-- H.266 meets the facts that the laws of every format ask.
use Rattle.std.proofs.Common.{ℕ, Bool, List, length, refl, ap, arith}
use Rattle.std.proofs.lemmas.Bool.{and_parts}
use Rattle.h26x_core.specs.Word.{is_set}
use Rattle.h26x_model.specs.Payload.Reading.{Reading}
use Rattle.h26x_model.specs.Payload.Facts.{IsPayloadFormat}
use Rattle.h26x_model.proofs.TwoByteLemmas as two_byte
use Rattle.h26x_model.proofs.TwoByteLemmas.{HasRoom, none_borne}
use Rattle.h266_payload.specs.CodecFacts.{fits_limits, aggregate_numbers}
use Rattle.h266_payload.specs.H266.{h266, h266_rules, read}
use Rattle.h266_payload.specs.Reading.{IsReading, IsShort, IsCorrupted, IsUnit, IsNumberedUnit, IsShortUnit, IsAggregate, IsShortAggregate, IsCutAggregate, IsCorruptedAggregate, IsWithoutNumber, IsFragment, IsNumberedStart, IsShortStart}
use Rattle.h266_payload.proofs.HeaderLemmas.{is_two_bytes}
use Rattle.h266_payload.proofs.SetsLemmas.{fit_is_within, sets_back, undetected}
use Rattle.h266_payload.proofs.ReadingLemmas.{has_reading}

-- a fragment has room for its headers and number beside its data
has_room : (has_donl : Bool) (packet : List ℕ) (reading : Reading) → IsReading has_donl packet reading → HasRoom has_donl (length packet) reading
has_room has_donl packet reading (IsFragment high low fu body w type n is) =
    rw (is, none_borne has_donl (is_set fu 7) n) (let l = ap length w.whole in omega (arith, l))
has_room has_donl packet reading (IsNumberedStart high low fu d e body w type n is) =
    rw (is, (and_parts has_donl (is_set fu 7) n).0) (let l = ap length w.whole in omega (arith, l))
has_room has_donl packet reading (IsShort short is) = rw is tt
has_room has_donl packet reading (IsCorrupted high low rest whole some marked is) = rw is tt
has_room has_donl packet reading (IsUnit high low rest w type n is) = rw is tt
has_room has_donl packet reading (IsNumberedUnit high low d e body w type n some is) = rw is tt
has_room has_donl packet reading (IsShortUnit high low rest w type n short is) = rw is tt
has_room has_donl packet reading (IsAggregate high low rest bytes don units w type behind are all two is) = rw is tt
has_room has_donl packet reading (IsShortAggregate high low rest bytes don units w type behind are all one is) = rw is tt
has_room has_donl packet reading (IsCutAggregate high low rest bytes left don units w type behind are all cut is) = rw is tt
has_room has_donl packet reading (IsCorruptedAggregate high low h l rest bytes unit after don units w type behind are all long forbidden is) = rw is tt
has_room has_donl packet reading (IsWithoutNumber high low d w type n is) = rw is tt
has_room has_donl packet reading (IsShortStart high low fu body w type n short is) = rw is tt

-- the format meets all facts, with and without numbers
pub is_payload_format : (has_donl : Bool) → IsPayloadFormat (h266 has_donl)
is_payload_format has_donl = two_byte.is_payload_format has_donl (h266_rules has_donl) (is_two_bytes has_donl) (record {
  within = fit_is_within has_donl;
  long = (fits_limits has_donl).sets;
  back = λ n limit sets unit is fit many carried h. sets_back has_donl n limit sets unit is fit many carried;
  undetected = λ n limit sets unit none is fit carried h each. undetected has_donl n limit sets unit none is fit each;
  dons = aggregate_numbers has_donl;
}) (λ packet. has_room has_donl packet (read has_donl packet) (has_reading has_donl packet)) (λ key. refl) refl
