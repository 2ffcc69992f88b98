-- H.265 meets the facts on which the laws of every unit stand.
use Rattle.std.proofs.Common.{◌≡◌, ℕ, ◌+◌, ◌*◌, ◌/◌, ◌%◌, ◌<◌, ◌≤◌, Bool, true, false, cond, List, [], ◌∷◌, ◌++◌, length, map, Option, refl, ap, arith, length-append}
use Rattle.std.specs.Prelude.{nat_le}
use Rattle.std.specs.List.{flat_map, list_any, sum_by, AllByRecursion}
use Rattle.std.proofs.lemmas.Bool.Decides.{nat_tests}
use Rattle.std.proofs.lemmas.List.Sums.{sum_by-cons}
use Rattle.h26x_core.specs.Word.{field, is_set, flag}
use Rattle.h26x_core.specs.H265Unit.{type_of}
use Rattle.h26x_core.specs.Pieces.{piece}
use Rattle.h26x_core.proofs.PieceLemmas.{pieces_back, number_back}
use Rattle.h26x_model.specs.Payload.Reading.{Reading, Aggregate}
use Rattle.h26x_model.specs.Payload.Format.{IsLimit}
use Rattle.h26x_model.specs.Payload.Don.{with_dons}
use Rattle.h26x_model.specs.Payload.Facts.{AreCarried, ReadsWhatItWrites}
use Rattle.h26x_model.proofs.SetsLemmas.{plain_numbers, sets_short}
use Rattle.h26x_model.proofs.TwoByteLemmas.{of_carried}
use Rattle.h265_payload.specs.H265.{h265, h265_rules, read, sets_fit, further_set, two_or_more}
use Rattle.h265_payload.specs.LowestHeader.{has_forbidden_bit, layer_of, lowest_layer, lowest_high, lowest_low}
use Rattle.h265_payload.specs.Reading.{AreFurther, IsReading, IsShort, IsCorrupted, IsUnit, IsNumberedUnit, IsShortUnit, IsAggregate, IsShortAggregate, IsNumberedAggregate, IsOneNumbered, IsNoneNumbered, IsWithoutNumber, IsFragment, IsNumberedStart, IsShortFragment, IsShortStart, IsPaci, IsShortPaci, IsPaciWithoutFields}
use Rattle.h265_payload.proofs.HeaderLemmas.{is_two_bytes}
use Rattle.h265_payload.proofs.LowestLemmas.{lowest_most, type_back, header_is}
use Rattle.h265_payload.proofs.RuleLemmas.{has_reading}
use Rattle.h265_payload.proofs.SetsLemmas.{fit_is_within, units_back}
use Rattle.h265_payload.proofs.FactLemmas.{is_payload_format}
use Rattle.h26x_model.specs.Send.Every.{IsReadWithin, HoldsWhatItBrings, FitsInPart, PacksUnits, CarriesByHeader}
use Rattle.h265_payload.specs.EveryUnit.{h265_every, own_aggregate, AreHeadedByUnits}
use Rattle.h265_payload.specs.EveryFacts.{fits_every, every_numbers}
use Rattle.h26x_model.proofs.PieceRoomLemmas.{with_length, sum_of, sum_append, without_dons}

-- carried units have F clear
none_forbidden : (has_donl : Bool) (units : List (List ℕ)) → AreCarried (h265 has_donl) units → list_any has_forbidden_bit units ≡ false
none_forbidden has_donl [] carried = refl
none_forbidden has_donl (unit ∷ units) (this, others) =
    let clear : has_forbidden_bit unit ≡ false = of_carried has_donl (h265_rules has_donl) (is_two_bytes has_donl) (λ unit. has_forbidden_bit unit ≡ false) (λ high low b unit c. c.clear) unit this in
    rw clear (none_forbidden has_donl units others)

-- an aggregate's header says so
is_clear : (f : Bool) (layer : ℕ) → layer ≤ 63 → f ≡ false → is_set (flag f 0x80 + 48 * 2 + layer / 32) 7 ≡ false
is_clear f layer small clear = rw clear (let none : field (0 + 48 * 2 + layer / 32) 7 7 ≡ 0 = omega arith in grind (arith, nat_tests))

-- two units or more that are short are read back behind any header of an aggregate
aggregate_back : (has_donl : Bool) (n high low : ℕ) (unit second : List ℕ) (units : List (List ℕ)) → is_set high 7 ≡ false → type_of high ≡ 48 →
    AllByRecursion (λ set. length set < 65536) (unit ∷ second ∷ units) →
    read has_donl ((high ∷ low ∷ []) ++ cond has_donl (n % 65536 / 256 % 256 ∷ n % 65536 % 256 ∷ []) [] ++ piece unit ++ flat_map (further_set has_donl) (second ∷ units))
    ≡ Aggregate (with_dons (h265 has_donl) n (unit ∷ second ∷ units))
aggregate_back false n high low unit second units clear type short =
    let all = unit ∷ second ∷ units in
    rw (clear, type, pieces_back all short) (ap Aggregate (plain_numbers (h265 false) refl n all))
aggregate_back true n high low unit second units clear type short =
    rw (clear, type, number_back n) (ap two_or_more (units_back n unit (second ∷ units) short))

units_are_back : (has_donl : Bool) (n limit : ℕ) (units : List (List ℕ)) (behind : List ℕ) → IsLimit (h265 has_donl) limit → sets_fit has_donl limit units ≡ true → 2 ≤ length units →
    AreCarried (h265 has_donl) units → read has_donl (own_aggregate has_donl n units) ≡ Aggregate (with_dons (h265 has_donl) n units)
units_are_back has_donl n limit [] behind is fit two carried = absurd (omega arith)
units_are_back has_donl n limit (unit ∷ []) behind is fit two carried = absurd (omega arith)
units_are_back has_donl n limit (unit ∷ second ∷ units) behind is fit two carried =
    let all = unit ∷ second ∷ units in
    let f = list_any has_forbidden_bit all in
    let small : lowest_layer all ≤ 63 = lowest_most 63 layer_of all in
    aggregate_back has_donl n (lowest_high all) (lowest_low all) unit second units (is_clear f (lowest_layer all) small (none_forbidden has_donl all carried))
    (type_back f (lowest_layer all) small) (sets_short (h265 has_donl) (fit_is_within has_donl) limit all (is refl) fit)

pub reads_every : (has_donl : Bool) → ReadsWhatItWrites (h265_every has_donl)
reads_every has_donl =
    let reads = (is_payload_format has_donl).reads in
    record {
      header = reads.header;
      single = reads.single;
      fragment = reads.fragment;
      sets = λ n limit sets unit is fit two carried unit_carried. units_are_back has_donl n limit sets unit is fit two carried;
    }

-- how many bytes the numbers of so many units take
abbrev numbers : Bool → ℕ → ℕ
numbers has_donl count = cond has_donl (count + 1) 0

numbers_less : (has_donl : Bool) (a b : ℕ) → a ≤ b → numbers has_donl a ≤ numbers has_donl b
numbers_less true a b less = omega (arith, less)
numbers_less false a b less = omega arith

fit_of : (has_donl : Bool) (limit : ℕ) (units : List (List ℕ)) → 2 + numbers has_donl (length units) + sum_by with_length units ≤ limit → sets_fit has_donl limit units ≡ true
fit_of has_donl limit units small = grind (arith, nat_tests, small)

fit_sum : (has_donl : Bool) (limit : ℕ) (units : List (List ℕ)) → sets_fit has_donl limit units ≡ true → 2 + numbers has_donl (length units) + sum_by with_length units ≤ limit
fit_sum has_donl limit units fit = grind (arith, nat_tests, fit)

alone_number : (has_donl : Bool) → cond has_donl 2 0 ≤ numbers has_donl 1
alone_number true = omega arith
alone_number false = omega arith

alone_fits : (has_donl : Bool) (limit : ℕ) (unit : List ℕ) → sets_fit has_donl limit (unit ∷ []) ≡ true → nat_le (length unit + cond has_donl 2 0) limit ≡ true
alone_fits has_donl limit unit fit =
    let p = fit_sum has_donl limit (unit ∷ []) fit in
    let s : sum_by with_length (unit ∷ []) ≡ with_length unit + sum_by with_length [] = sum_by-cons with_length unit [] in
    let one = alone_number has_donl in
    let le : length unit + cond has_donl 2 0 ≤ limit = omega (arith, p, s, one) in
    grind (arith, nat_tests, le)

pub fits_in_part : (has_donl : Bool) → FitsInPart (h265_every has_donl)
fits_in_part has_donl = record {
  wider = λ limit most units less fit. let p = fit_sum has_donl limit units fit in fit_of has_donl most units (omega (arith, p, less));
  front = λ limit a b fit.
      let p = fit_sum has_donl limit (a ++ b) fit in let s = sum_append a b in let l = length-append a b in
      let n = numbers_less has_donl (length a) (length (a ++ b)) (omega (arith, l)) in
      fit_of has_donl limit a (omega (arith, p, s, n));
  back = λ limit a b fit.
      let p = fit_sum has_donl limit (a ++ b) fit in let s = sum_append a b in let l = length-append a b in
      let n = numbers_less has_donl (length b) (length (a ++ b)) (omega (arith, l)) in
      fit_of has_donl limit b (omega (arith, p, s, n));
  alone = alone_fits has_donl;
}

-- the units of pairs
abbrev units_of_pairs : List (List ℕ × Option ℕ) → List (List ℕ)
units_of_pairs pairs = map (λ (u : List ℕ × Option ℕ). u.0) pairs

-- further units take a byte more each
further_room : (before : ℕ) (bytes : List ℕ) (pairs : List (List ℕ × Option ℕ)) (left : List ℕ) → AreFurther before bytes pairs left →
    length (units_of_pairs pairs) + sum_by with_length (units_of_pairs pairs) ≤ length bytes
further_room before bytes [] left are = omega arith
further_room before bytes (pair ∷ pairs) left (difference, high, low, behind, is, long, number, are) =
    let whole : length bytes ≡ length (difference ∷ high ∷ low ∷ pair.0 ++ behind) = ap length is in
    let both = length-append pair.0 behind in
    let next = further_room ((before + difference + 1) % 65536) behind pairs left are in
    let s : sum_by with_length (pair.0 ∷ units_of_pairs pairs) ≡ with_length pair.0 + sum_by with_length (units_of_pairs pairs) = sum_by-cons with_length pair.0 (units_of_pairs pairs) in
    omega (arith, whole, both, next, s)

small_number : (has_donl : Bool) → cond has_donl 2 0 ≤ 2
small_number true = omega arith
small_number false = omega arith

-- what is read of a packet takes room in it
within : (has_donl : Bool) (packet : List ℕ) (reading : Reading) → IsReading has_donl packet reading → IsReadWithin (h265_every has_donl) packet reading
within has_donl packet reading (IsFragment high low fu body w type n some is) = rw is (omega arith)
within has_donl packet reading (IsNumberedStart high low fu d e body w type n some is) = rw is (omega arith)
within has_donl packet reading (IsShort short is) = rw is tt
within has_donl packet reading (IsCorrupted high low rest whole some marked is) = rw is tt
within has_donl packet reading (IsUnit high low rest w type n is) = rw (is, n) (omega arith)
within has_donl packet reading (IsNumberedUnit high low d e body w type n some is) = rw (is, n) (let l : length packet ≡ length (high ∷ low ∷ d ∷ e ∷ body) = ap length w.whole in omega (arith, l))
within has_donl packet reading (IsShortUnit high low rest w type n short is) = rw is tt
within has_donl packet reading (IsAggregate high low rest left pieces w type n are none two is) =
    let room = sum_of rest pieces left are in
    let all_of : length packet ≡ length (high ∷ low ∷ rest) = ap length w.whole in
    rw (is, without_dons pieces, n) (fit_of false (length packet) pieces (omega (arith, room, all_of)))
within has_donl packet reading (IsShortAggregate high low rest left pieces w type n are none one is) = rw is tt
within has_donl packet reading (IsNumberedAggregate high low d e h l first behind left further w type n long are none some is) =
    let room = further_room (d * 256 + e) behind further left are in
    let all_of : length packet ≡ length (high ∷ low ∷ d ∷ e ∷ h ∷ l ∷ first ++ behind) = ap length w.whole in
    let both = length-append first behind in
    let s : sum_by with_length (first ∷ units_of_pairs further) ≡ with_length first + sum_by with_length (units_of_pairs further) = sum_by-cons with_length first (units_of_pairs further) in
    rw (is, n) (fit_of true (length packet) (first ∷ units_of_pairs further) (omega (arith, room, all_of, both, s)))
within has_donl packet reading (IsOneNumbered high low d e h l first behind w type n long none is) = rw is tt
within has_donl packet reading (IsNoneNumbered high low d e bytes w type n none is) = rw is tt
within has_donl packet reading (IsWithoutNumber high low d w type n is) = rw is tt
within has_donl packet reading (IsShortFragment high low fu w type n is) = rw is tt
within has_donl packet reading (IsShortStart high low fu body w type n short is) = rw is tt
within has_donl packet reading (IsPaci high low a b extension body w type long some is) =
    let all_of : length packet ≡ length (high ∷ low ∷ a ∷ b ∷ extension ++ body) = ap length w.whole in
    let both = length-append extension body in
    let small = small_number has_donl in
    rw is (omega (arith, all_of, both, small))
within has_donl packet reading (IsShortPaci high low a b bytes w type short is) = rw is tt
within has_donl packet reading (IsPaciWithoutFields high low a w type is) = rw is tt

pub holds_what_it_brings : (has_donl : Bool) → HoldsWhatItBrings (h265_every has_donl)
holds_what_it_brings has_donl = record { fragment = (is_payload_format has_donl).headers; packet = λ packet small. within has_donl packet (read has_donl packet) (has_reading has_donl packet) }

-- the facts on which the laws of every unit stand
pub packs_units : (has_donl : Bool) → PacksUnits (h265_every has_donl)
packs_units has_donl = record { reads = reads_every has_donl; limits = fits_every has_donl; dons = every_numbers has_donl; holds = holds_what_it_brings has_donl; parts = fits_in_part has_donl }

-- a header with a byte more is carried where it is
pub carries_by_header : (has_donl : Bool) → CarriesByHeader (h265_every has_donl) 3
carries_by_header has_donl [] own some = absurd (omega (arith, some))
carries_by_header has_donl (high ∷ []) own some = absurd (omega (arith, some))
carries_by_header has_donl (high ∷ low ∷ []) own some = absurd (omega (arith, some))
carries_by_header has_donl (high ∷ low ∷ b ∷ unit) own some = own

-- an aggregate's header is that of its units
pub headed_by_units : AreHeadedByUnits
headed_by_units has_donl don first units = header_is (first ∷ units) (omega arith)
