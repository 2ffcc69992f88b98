-- H.266 meets the facts on which the laws of every unit stand.
use Rattle.std.proofs.Common.{◌≡◌, ℕ, ◌+◌, ◌%◌, ◌≤◌, Bool, true, cond, List, [], ◌∷◌, ◌++◌, length, map, Option, Some, None, refl, ap, arith}
use Rattle.std.specs.Prelude.{nat_le}
use Rattle.std.specs.List.{sum_by}
use Rattle.std.proofs.lemmas.Bool.Decides.{nat_tests}
use Rattle.std.proofs.lemmas.List.Sums.{sum_by-cons}
use Rattle.h26x_model.specs.Payload.Reading.{Reading}
use Rattle.h266_payload.specs.H266.{read, sets_fit, units_with_dons}
use Rattle.h266_payload.specs.Reading.{IsBehind, IsPlain, IsNumbered, IsReading, IsShort, IsCorrupted, IsUnit, IsNumberedUnit, IsShortUnit, IsAggregate, IsShortAggregate, IsCutAggregate, IsCorruptedAggregate, IsWithoutNumber, IsFragment, IsNumberedStart, IsShortStart}
use Rattle.h266_payload.proofs.ReadingLemmas.{has_reading}
use Rattle.h266_payload.proofs.FactLemmas.{is_payload_format}
use Rattle.h26x_model.specs.Send.Every.{IsReadWithin, HoldsWhatItBrings, FitsInPart, PacksUnits, CarriesByHeader}
use Rattle.h266_payload.specs.EveryUnit.{h266_every}
use Rattle.h266_payload.specs.EveryFacts.{fits_every, every_numbers}
use Rattle.h26x_model.proofs.PieceRoomLemmas.{with_length, sum_of, sum_append, without_dons}

-- how many bytes a number takes
abbrev number : Bool → ℕ
number has_donl = cond has_donl 2 0

fit_of : (has_donl : Bool) (limit : ℕ) (units : List (List ℕ)) → 2 + number has_donl + sum_by with_length units ≤ limit → sets_fit has_donl limit units ≡ true
fit_of has_donl limit units small = grind (arith, nat_tests, small)

fit_sum : (has_donl : Bool) (limit : ℕ) (units : List (List ℕ)) → sets_fit has_donl limit units ≡ true → 2 + number has_donl + sum_by with_length units ≤ limit
fit_sum has_donl limit units fit = grind (arith, nat_tests, fit)

alone_fits : (has_donl : Bool) (limit : ℕ) (unit : List ℕ) → sets_fit has_donl limit (unit ∷ []) ≡ true → nat_le (length unit + number has_donl) limit ≡ true
alone_fits has_donl limit unit fit =
    let p = fit_sum has_donl limit (unit ∷ []) fit in
    let s : sum_by with_length (unit ∷ []) ≡ with_length unit + sum_by with_length [] = sum_by-cons with_length unit [] in
    let le : length unit + number has_donl ≤ limit = omega (arith, p, s) in
    grind (arith, nat_tests, le)

pub fits_in_part : (has_donl : Bool) → FitsInPart (h266_every has_donl)
fits_in_part has_donl = record {
  wider = λ limit most units less fit. let p = fit_sum has_donl limit units fit in fit_of has_donl most units (omega (arith, p, less));
  front = λ limit a b fit. let p = fit_sum has_donl limit (a ++ b) fit in let s = sum_append a b in fit_of has_donl limit a (omega (arith, p, s));
  back = λ limit a b fit. let p = fit_sum has_donl limit (a ++ b) fit in let s = sum_append a b in fit_of has_donl limit b (omega (arith, p, s));
  alone = alone_fits has_donl;
}

without_numbers : (don : Option ℕ) (units : List (List ℕ)) → map (λ (u : List ℕ × Option ℕ). u.0) (units_with_dons don units) ≡ units
without_numbers None units = without_dons units
without_numbers (Some n) [] = refl
without_numbers (Some n) (unit ∷ units) = ap (λ (x : List (List ℕ)). unit ∷ x) (without_numbers (Some ((n + 1) % 65536)) units)

-- what stands behind an aggregate's header is its number and its bytes
behind_long : (has_donl : Bool) (rest bytes : List ℕ) (don : Option ℕ) → IsBehind has_donl rest don bytes → length rest ≡ number has_donl + length bytes
behind_long has_donl rest bytes don (IsPlain plain none is) = rw plain (let l : length rest ≡ length bytes = ap length is in omega (arith, l))
behind_long has_donl rest bytes don (IsNumbered d e numbered some is) = rw numbered (let l : length rest ≡ length (d ∷ e ∷ bytes) = ap length is in omega (arith, l))

-- what is read of a packet takes room in it
within : (has_donl : Bool) (packet : List ℕ) (reading : Reading) → IsReading has_donl packet reading → IsReadWithin (h266_every has_donl) packet reading
within has_donl packet reading (IsFragment high low fu body w type n is) = rw is (omega arith)
within has_donl packet reading (IsNumberedStart high low fu d e body w type n is) = rw is (omega arith)
within has_donl packet reading (IsShort short is) = rw is tt
within has_donl packet reading (IsCorrupted high low rest whole some marked is) = rw is tt
within has_donl packet reading (IsUnit high low rest w type n is) = rw (is, n) (omega arith)
within has_donl packet reading (IsNumberedUnit high low d e body w type n some is) = rw (is, n) (let l : length packet ≡ length (high ∷ low ∷ d ∷ e ∷ body) = ap length w.whole in omega (arith, l))
within has_donl packet reading (IsShortUnit high low rest w type n short is) = rw is tt
within has_donl packet reading (IsAggregate high low rest bytes don units w type behind are all two is) =
    let room = sum_of bytes units [] are in
    let all_of : length packet ≡ length (high ∷ low ∷ rest) = ap length w.whole in
    let long = behind_long has_donl rest bytes don behind in
    rw (is, without_numbers don units) (fit_of has_donl (length packet) units (omega (arith, room, all_of, long)))
within has_donl packet reading (IsShortAggregate high low rest bytes don units w type behind are all one is) = rw is tt
within has_donl packet reading (IsCutAggregate high low rest bytes left don units w type behind are all cut is) = rw is tt
within has_donl packet reading (IsCorruptedAggregate high low h l rest bytes unit after don units w type behind are all long forbidden is) = rw is tt
within has_donl packet reading (IsWithoutNumber high low d w type n is) = rw is tt
within has_donl packet reading (IsShortStart high low fu body w type n short is) = rw is tt

pub holds_what_it_brings : (has_donl : Bool) → HoldsWhatItBrings (h266_every has_donl)
holds_what_it_brings has_donl = record { fragment = (is_payload_format has_donl).headers; packet = λ packet small. within has_donl packet (read has_donl packet) (has_reading has_donl packet) }

-- the facts on which the laws of every unit stand
pub packs_units : (has_donl : Bool) → PacksUnits (h266_every has_donl)
packs_units has_donl =
    let reads = (is_payload_format has_donl).reads in
    record {
      reads = record { header = reads.header; single = reads.single; fragment = reads.fragment; sets = λ n limit units unit is fit two carried one. reads.sets n limit units unit is fit two carried one };
      limits = fits_every has_donl;
      dons = every_numbers has_donl;
      holds = holds_what_it_brings has_donl;
      parts = fits_in_part has_donl;
    }

-- a header with a byte more is carried where it is
pub carries_by_header : (has_donl : Bool) → CarriesByHeader (h266_every has_donl) 3
carries_by_header has_donl [] own some = absurd (omega (arith, some))
carries_by_header has_donl (high ∷ []) own some = absurd (omega (arith, some))
carries_by_header has_donl (high ∷ low ∷ []) own some = absurd (omega (arith, some))
carries_by_header has_donl (high ∷ low ∷ b ∷ unit) own some = own
