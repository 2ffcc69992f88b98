-- What the laws of every format ask of H.264 beside that it reads what it writes.
use Rattle.std.proofs.Common.{◌≡◌, ℕ, Bool, true, false, eqb, List, [], ◌∷◌, ◌++◌, length, refl, arith, rules}
use Rattle.std.specs.Prelude.{IsTrue, nat_le, ◌&&◌}
use Rattle.std.specs.List.{list_any, AllByRecursion}
use Rattle.std.proofs.lemmas.Bool.Decides.{nat_tests}
use Rattle.h26x_core.specs.H264Unit.{type_of, type_of_first, is_key}
use Rattle.h26x_model.specs.Send.Packets.{single_packet}
use Rattle.h26x_model.specs.Payload.Facts.{AreCarried, HeadersTakeRoom, HeadersAreWhole, MarksFragments, ExtraTells, KnowsKeyUnits, KeyUnitsAreOther, IsPayloadFormat}
use Rattle.h26x_core.proofs.HeaderLemmas.{start_back, end_back, type_back}
use Rattle.h26x_core.proofs.PieceLemmas.{pieces_back, pieces_long}
use Rattle.h26x_model.proofs.SetsLemmas.{FitIsWithin, sets_leave_room}
use Rattle.h264_payload.specs.H264.{h264, carries, sets_fit, fragment_header}
use Rattle.h264_payload.specs.CodecFacts.{fits_limits, no_numbers}
use Rattle.h264_payload.proofs.HeaderLemmas.{type_below, type_fits, indicator_type, carried_first, unit_tests}
use Rattle.h264_payload.proofs.ReadBackLemmas.{reads_what_it_writes}
use Rattle.h264_payload.proofs.SetLemmas.{fit_parts, none_is_empty}

-- a fragment has two bytes beside its data
pub headers_take_room : HeadersTakeRoom h264
headers_take_room = search rules

-- sets that fit are within the limit with the STAP-A's header
fit_is_within : FitIsWithin h264
fit_is_within limit sets some fit = let h = (fit_parts limit sets fit).0 in let l = pieces_long sets in omega (arith, h, l)

-- a key unit has a whole header
key_whole : (unit : List ℕ) → is_key unit ≡ true → nat_le 1 (length unit) ≡ true
key_whole [] e = absurd cc
key_whole (first ∷ unit) e = grind (arith, nat_tests)

-- the extra tells what it was made from
pub extra_tells : ExtraTells h264
extra_tells = record { tells = λ key. refl; none = refl; whole = key_whole }

-- a unit alone is detected where it is a key unit
single_detected : (n : ℕ) (unit : List ℕ) → IsTrue (carries unit) → h264.detects (single_packet h264 n unit) ≡ is_key unit
single_detected n [] h = let e : false ≡ true = h in absurd cc
single_detected n (first ∷ unit) h =
    let c = carried_first first unit h in
    let t = unit_tests (type_of first) c.1 c.2 in
    rw (t.0, t.1, t.2, t.3) refl

-- a fragment is detected where it starts a key unit
fragment_detected : (unit behind : List ℕ) (start end : Bool) → IsTrue (carries unit) → h264.detects (fragment_header unit start end ++ behind) ≡ (start && is_key unit)
fragment_detected [] behind start end h = let e : false ≡ true = h in absurd cc
fragment_detected (first ∷ unit) behind start end h =
    rw (indicator_type first, start_back start end (type_of first) (type_fits first), type_back start end (type_of first) (type_below first)) refl

-- where no unit is a key unit, none is of the key type
none_of_key_type : (sets : List (List ℕ)) → AllByRecursion (λ set. is_key set ≡ false) sets → list_any (λ set. eqb (type_of_first set) 5) sets ≡ false
none_of_key_type [] h = refl
none_of_key_type ([] ∷ sets) h = none_of_key_type sets h.1
none_of_key_type ((first ∷ set) ∷ sets) h = rw h.0 (none_of_key_type sets h.1)

-- a STAP-A of sets is not detected
sets_detected : (n limit : ℕ) (sets : List (List ℕ)) (unit : List ℕ) → sets_fit limit sets ≡ true → AreCarried h264 sets →
    AllByRecursion (λ set. is_key set ≡ false) sets → h264.detects (h264.sets_packet n sets unit) ≡ false
sets_detected n limit sets unit fit carried none =
    rw (pieces_back sets (fit_parts limit sets fit).1, none_is_empty sets carried) (none_of_key_type sets none)

-- a packet made tells whether it holds or begins a key unit
pub knows_key_units : KnowsKeyUnits h264
knows_key_units = record {
  single = single_detected;
  fragment = fragment_detected;
  sets = λ n limit sets unit plain is fit carried unit_carried none. sets_detected n limit sets unit fit carried none;
}

-- a key unit is no parameter set
pub key_units_are_other : KeyUnitsAreOther h264
key_units_are_other = search rules

-- an FU-A's header is two bytes
headers_are_whole : HeadersAreWhole h264
headers_are_whole [] start end whole = absurd (omega arith)
headers_are_whole (first ∷ unit) start end whole = refl

-- an FU-A bears its marks in its second byte
marks_fragments : MarksFragments h264
marks_fragments [] behind start end header = absurd (omega arith)
marks_fragments (first ∷ unit) behind start end header = (start_back start end (type_of first) (type_fits first), end_back start end (type_of first) (type_fits first))

-- the format meets all facts
pub is_payload_format : IsPayloadFormat h264
is_payload_format = record {
  headers = headers_take_room;
  reads = reads_what_it_writes;
  limits = fits_limits;
  whole = headers_are_whole;
  marks = marks_fragments;
  sets = sets_leave_room h264 fit_is_within;
  extra = extra_tells;
  detects = knows_key_units;
  other = key_units_are_other;
  dons = no_numbers;
}
