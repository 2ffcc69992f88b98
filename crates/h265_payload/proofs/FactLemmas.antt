-- H.265 meets the facts that the laws of every format ask.
use Rattle.std.proofs.Common.{ℕ, Bool, List, length, refl, ap, arith}
use Rattle.std.proofs.lemmas.Bool.{and_parts}
use Rattle.h26x_core.specs.Word.{is_set}
use Rattle.h26x_model.specs.Payload.Reading.{Reading}
use Rattle.h26x_model.specs.Payload.Facts.{IsPayloadFormat}
use Rattle.h26x_model.proofs.TwoByteLemmas as two_byte
use Rattle.h26x_model.proofs.TwoByteLemmas.{HasRoom, none_borne}
use Rattle.h265_payload.specs.CodecFacts.{fits_limits, aggregate_numbers}
use Rattle.h265_payload.specs.H265.{h265, h265_rules, read}
use Rattle.h265_payload.specs.Reading.{IsReading, IsShort, IsCorrupted, IsUnit, IsNumberedUnit, IsShortUnit, IsAggregate, IsShortAggregate, IsNumberedAggregate, IsOneNumbered, IsNoneNumbered, IsWithoutNumber, IsFragment, IsNumberedStart, IsShortFragment, IsShortStart, IsPaci, IsShortPaci, IsPaciWithoutFields}
use Rattle.h265_payload.proofs.HeaderLemmas.{is_two_bytes}
use Rattle.h265_payload.proofs.SetsLemmas.{fit_is_within, sets_back, undetected}
use Rattle.h265_payload.proofs.RuleLemmas.{has_reading}

-- a fragment has room for its headers and number beside its data
has_room : (has_donl : Bool) (packet : List ℕ) (reading : Reading) → IsReading has_donl packet reading → HasRoom has_donl (length packet) reading
has_room has_donl packet reading (IsFragment high low fu body w type n some is) =
    rw (is, none_borne has_donl (is_set fu 7) n) (let l = ap length w.whole in omega (arith, l))
has_room has_donl packet reading (IsNumberedStart high low fu d e body w type n some is) =
    rw (is, (and_parts has_donl (is_set fu 7) n).0) (let l = ap length w.whole in omega (arith, l))
has_room has_donl packet reading (IsShort short is) = rw is tt
has_room has_donl packet reading (IsCorrupted high low rest whole some marked is) = rw is tt
has_room has_donl packet reading (IsUnit high low rest w type n is) = rw is tt
has_room has_donl packet reading (IsNumberedUnit high low d e body w type n some is) = rw is tt
has_room has_donl packet reading (IsShortUnit high low rest w type n short is) = rw is tt
has_room has_donl packet reading (IsAggregate high low rest left pieces w type n are none two is) = rw is tt
has_room has_donl packet reading (IsShortAggregate high low rest left pieces w type n are none one is) = rw is tt
has_room has_donl packet reading (IsNumberedAggregate high low d e h l first behind left further w type n long are none some is) = rw is tt
has_room has_donl packet reading (IsOneNumbered high low d e h l first behind w type n long none is) = rw is tt
has_room has_donl packet reading (IsNoneNumbered high low d e bytes w type n none is) = rw is tt
has_room has_donl packet reading (IsWithoutNumber high low d w type n is) = rw is tt
has_room has_donl packet reading (IsShortFragment high low fu w type n is) = rw is tt
has_room has_donl packet reading (IsShortStart high low fu body w type n short is) = rw is tt
has_room has_donl packet reading (IsPaci high low a b extension body w type long some is) = rw is tt
has_room has_donl packet reading (IsShortPaci high low a b bytes w type short is) = rw is tt
has_room has_donl packet reading (IsPaciWithoutFields high low a w type is) = rw is tt

-- the format meets all facts, with and without numbers
pub is_payload_format : (has_donl : Bool) → IsPayloadFormat (h265 has_donl)
is_payload_format has_donl = two_byte.is_payload_format has_donl (h265_rules has_donl) (is_two_bytes has_donl) (record {
  within = fit_is_within has_donl;
  long = (fits_limits has_donl).sets;
  back = λ n limit sets unit is fit many carried h. sets_back has_donl n limit sets unit is fit many h;
  undetected = λ n limit sets unit none is fit carried h all. undetected has_donl n limit sets unit none is fit h all;
  dons = aggregate_numbers has_donl;
}) (λ packet. has_room has_donl packet (read has_donl packet) (has_reading has_donl packet)) (λ key. refl) refl
