-- H.264 meets the facts on which the laws of every unit stand.
use Rattle.std.proofs.Common.{◌≡◌, ℕ, ◌+◌, ◌*◌, ◌<◌, ◌≤◌, Bool, true, false, List, [], ◌∷◌, ◌++◌, length, refl, ap, subst, arith, eqb, eq-eqb}
use Rattle.std.specs.Prelude.{nat_le, nat_lt, ◌||◌, filter}
use Rattle.std.specs.List.{list_all, list_any, sum_by, AllByRecursion}
use Rattle.std.proofs.lemmas.Bool.{and_parts}
use Rattle.std.proofs.lemmas.Bool.Decides.{nat_tests}
use Rattle.std.proofs.lemmas.List.Sums.{sum_by-cons}
use Rattle.h26x_core.specs.H264Unit.{type_of}
use Rattle.h26x_core.specs.Word.{field, is_set, flag}
use Rattle.h26x_core.specs.ByteStream.{is_not_empty}
use Rattle.h26x_core.proofs.PieceLemmas.{pieces_back}
use Rattle.h26x_model.specs.Payload.Reading.{Reading, Aggregate}
use Rattle.h26x_model.specs.Payload.Don.{with_dons}
use Rattle.h26x_model.specs.Payload.Facts.{AreCarried, ReadsWhatItWrites}
use Rattle.h26x_model.proofs.SetsLemmas.{plain_numbers}
use Rattle.h264_payload.specs.H264.{h264, read, sets_fit}
use Rattle.h264_payload.proofs.SetLemmas.{fit_parts, none_is_empty}
use Rattle.h264_payload.proofs.ReadBackLemmas.{reads_what_it_writes}
use Rattle.h264_payload.proofs.FactLemmas.{headers_take_room}
use Rattle.h264_payload.specs.Reading.{IsReading, IsEmpty, IsUnit, IsStap, IsCutStap, IsFragment, IsShortFragment, IsOtherType}
use Rattle.h264_payload.proofs.ReadingLemmas.{has_reading}
use Rattle.h26x_model.specs.Send.Every.{IsOfBytes, IsReadWithin, HoldsWhatItBrings, FitsInPart, PacksUnits, CarriesByHeader, has_f_bit}
use Rattle.h264_payload.specs.EveryUnit.{h264_every, own_aggregate, highest_nri, nri_of, AreHeadedByUnits}
use Rattle.h264_payload.specs.EveryFacts.{fits_every, every_numbers}
use Rattle.h26x_model.proofs.PieceRoomLemmas.{with_length, sum_of, short_of, sum_append, without_dons}
use Rattle.h26x_model.proofs.FewestPacketsLemmas.{all_of_both}

-- the header of a STAP-A has type 24
stap_type : (set : Bool) (nri : ℕ) → type_of (flag set 0x80 + nri * 32 + 24) ≡ 24
stap_type true nri = omega arith
stap_type false nri = omega arith

-- a STAP-A of units that fit it is read as these units
units_back : (n limit : ℕ) (units : List (List ℕ)) (unit : List ℕ) → sets_fit limit units ≡ true → AreCarried h264 units →
    read (own_aggregate n units) ≡ Aggregate (with_dons h264 n units)
units_back n limit units unit fit carried =
    rw (stap_type (list_any has_f_bit units) (highest_nri units), pieces_back units (fit_parts limit units fit).1, none_is_empty units carried)
    (ap Aggregate (plain_numbers h264 refl n units))

pub reads_every : ReadsWhatItWrites h264_every
reads_every = record {
  header = reads_what_it_writes.header;
  single = reads_what_it_writes.single;
  fragment = reads_what_it_writes.fragment;
  sets = λ n limit sets unit is fit two carried unit_carried. units_back n limit sets unit fit carried;
}

-- units of these lengths and sum fit
fit_of : (limit : ℕ) (units : List (List ℕ)) → 1 + sum_by with_length units ≤ limit → list_all (λ (unit : List ℕ). nat_lt (length unit) 65536) units ≡ true →
    sets_fit limit units ≡ true
fit_of limit units small short = let le : nat_le (1 + sum_by with_length units) limit ≡ true = grind (arith, nat_tests, small) in rw (le, short) refl

fit_sum : (limit : ℕ) (units : List (List ℕ)) → sets_fit limit units ≡ true →
    (1 + sum_by with_length units ≤ limit) × (list_all (λ (unit : List ℕ). nat_lt (length unit) 65536) units ≡ true)
fit_sum limit units fit =
    let p = and_parts (nat_le (1 + sum_by with_length units) limit) (list_all (λ (unit : List ℕ). nat_lt (length unit) 65536) units) fit in
    let le : nat_le (1 + sum_by with_length units) limit ≡ true = p.0 in
    (grind (arith, nat_tests, le), p.1)

fits_front : (limit : ℕ) (a b : List (List ℕ)) → sets_fit limit (a ++ b) ≡ true → sets_fit limit a ≡ true
fits_front limit a b fit =
    let p = fit_sum limit (a ++ b) fit in
    let both = sum_append a b in
    let all = p.0 in
    fit_of limit a (omega (arith, both, all)) (all_of_both (λ (unit : List ℕ). nat_lt (length unit) 65536) a b p.1).0

fits_back : (limit : ℕ) (a b : List (List ℕ)) → sets_fit limit (a ++ b) ≡ true → sets_fit limit b ≡ true
fits_back limit a b fit =
    let p = fit_sum limit (a ++ b) fit in
    let both = sum_append a b in
    let all = p.0 in
    fit_of limit b (omega (arith, both, all)) (all_of_both (λ (unit : List ℕ). nat_lt (length unit) 65536) a b p.1).1

fits_alone : (limit : ℕ) (unit : List ℕ) → sets_fit limit (unit ∷ []) ≡ true → nat_le (length unit + 0) limit ≡ true
fits_alone limit unit fit =
    let p = (fit_sum limit (unit ∷ []) fit).0 in
    let s : sum_by with_length (unit ∷ []) ≡ with_length unit + sum_by with_length [] = sum_by-cons with_length unit [] in
    let le : length unit + 0 ≤ limit = omega (arith, p, s) in
    grind (arith, nat_tests, le)

fits_wider : (limit most : ℕ) (units : List (List ℕ)) → limit ≤ most → sets_fit limit units ≡ true → sets_fit most units ≡ true
fits_wider limit most units less fit = let p = fit_sum limit units fit in let all = p.0 in fit_of most units (omega (arith, all, less)) p.1

pub fits_in_part : FitsInPart h264_every
fits_in_part = record { wider = fits_wider; front = fits_front; back = fits_back; alone = fits_alone }

-- pieces that are not empty take no more room
filtered : (pieces : List (List ℕ)) → sum_by with_length (filter is_not_empty pieces) ≤ sum_by with_length pieces
filtered [] = omega arith
filtered ([] ∷ pieces) =
    let h = filtered pieces in
    let t : sum_by with_length ([] ∷ pieces) ≡ with_length [] + sum_by with_length pieces = sum_by-cons with_length [] pieces in
    omega (arith, h, t)
filtered ((first ∷ rest) ∷ pieces) =
    let h = filtered pieces in
    let s : sum_by with_length ((first ∷ rest) ∷ filter is_not_empty pieces) ≡ with_length (first ∷ rest) + sum_by with_length (filter is_not_empty pieces) =
    sum_by-cons with_length (first ∷ rest) (filter is_not_empty pieces) in
    let t : sum_by with_length ((first ∷ rest) ∷ pieces) ≡ with_length (first ∷ rest) + sum_by with_length pieces = sum_by-cons with_length (first ∷ rest) pieces in
    omega (arith, h, s, t)

-- units that are short pass the test
short_all : (units : List (List ℕ)) → AllByRecursion (λ unit. length unit < 65536) units → list_all (λ (unit : List ℕ). nat_lt (length unit) 65536) units ≡ true
short_all [] h = refl
short_all (unit ∷ units) h =
    let first = h.0 in
    let here : nat_lt (length unit) 65536 ≡ true = grind (arith, nat_tests, first) in
    rw (here, short_all units h.1) refl

-- so do those that are not empty
short_filtered : (units : List (List ℕ)) → AllByRecursion (λ unit. length unit < 65536) units → AllByRecursion (λ unit. length unit < 65536) (filter is_not_empty units)
short_filtered [] h = tt
short_filtered ([] ∷ units) h = short_filtered units h.1
short_filtered ((first ∷ rest) ∷ units) h = (h.0, short_filtered units h.1)

-- what is read of a packet takes room in it
within : (packet : List ℕ) (reading : Reading) → IsOfBytes packet → IsReading packet reading → IsReadWithin h264_every packet reading
within packet reading small (IsEmpty none is) = rw is tt
within packet reading small (IsUnit first rest whole least most is) = rw is (omega arith)
within packet reading small (IsStap first bytes left pieces whole type are short is) =
    let these : IsOfBytes (first ∷ bytes) = subst IsOfBytes whole small in
    let room = sum_of bytes pieces left are in
    let fewer = filtered pieces in
    let long : length packet ≡ length (first ∷ bytes) = ap length whole in
    rw (is, without_dons (filter is_not_empty pieces))
    (fit_of (length packet) (filter is_not_empty pieces) (omega (arith, room, fewer, long))
    (short_all (filter is_not_empty pieces) (short_filtered pieces (short_of bytes pieces left these.1 are))))
within packet reading small (IsCutStap first high low bytes left pieces whole type are short is) = rw is tt
within packet reading small (IsFragment first second body whole type is) = rw is (omega arith)
within packet reading small (IsShortFragment first whole type is) = rw is tt
within packet reading small (IsOtherType first rest whole other stap fu is) = rw is tt

pub holds_what_it_brings : HoldsWhatItBrings h264_every
holds_what_it_brings = record { fragment = headers_take_room; packet = λ packet small. within packet (read packet) small (has_reading packet) }

-- the facts on which the laws of every unit stand
pub packs_units : PacksUnits h264_every
packs_units = record { reads = reads_every; limits = fits_every; dons = every_numbers; holds = holds_what_it_brings; parts = fits_in_part }

-- a header with a byte more is carried where it is
pub carries_by_header : CarriesByHeader h264_every 1
carries_by_header [] own some = absurd (omega (arith, some))
carries_by_header (first ∷ unit) own some = own

-- an NRI has two bits
nri_small : (unit : List ℕ) → nri_of unit ≤ 3
nri_small [] = omega arith
nri_small (first ∷ unit) = omega arith

highest_small : (units : List (List ℕ)) → highest_nri units ≤ 3
highest_small [] = omega arith
highest_small (unit ∷ units) = let a = nri_small unit in let b = highest_small units in omega (arith, a, b)

-- what is at least the greatest is at least each
all_most : (n : ℕ) (units : List (List ℕ)) → highest_nri units ≤ n → AllByRecursion (λ unit. nri_of unit ≤ n) units
all_most n [] most = tt
all_most n (unit ∷ units) most = (omega (arith, most), all_most n units (omega (arith, most)))

-- a unit has the greatest
is_there : (unit : List ℕ) (units : List (List ℕ)) (n : ℕ) → n ≡ highest_nri (unit ∷ units) → list_any (λ unit. eqb (nri_of unit) n) (unit ∷ units) ≡ true
is_there unit [] n same = let e : eqb (nri_of unit) n ≡ true = eq-eqb (nri_of unit) n (omega (arith, same)) in rw e refl
is_there unit (second ∷ units) n same =
    let later : n ≡ highest_nri (second ∷ units) → list_any (λ unit. eqb (nri_of unit) n) (second ∷ units) ≡ true = is_there second units n in
    elim (eqb (nri_of unit) n) as (λ b. eqb (nri_of unit) n ≡ b → (b || list_any (λ unit. eqb (nri_of unit) n) (second ∷ units)) ≡ true) [
      | true ↦ λ _. refl
      | false ↦ λ no. later (grind (arith, nat_tests))
    ] refl

-- the fields of the header
f_back : (f : Bool) (nri : ℕ) → nri ≤ 3 → is_set (flag f 0x80 + nri * 32 + 24) 7 ≡ f
f_back true nri small = let one : field (0x80 + nri * 32 + 24) 7 7 ≡ 1 = omega (arith, small) in grind (arith, nat_tests, one)
f_back false nri small = let none : field (0 + nri * 32 + 24) 7 7 ≡ 0 = omega (arith, small) in grind (arith, nat_tests, none)

nri_back : (f : Bool) (nri : ℕ) → nri ≤ 3 → field (flag f 0x80 + nri * 32 + 24) 6 5 ≡ nri
nri_back true nri small = omega (arith, small)
nri_back false nri small = omega (arith, small)

-- a STAP-A's header is that of its units
pub headed_by_units : AreHeadedByUnits
headed_by_units don first units =
    let all = first ∷ units in
    let f = list_any has_f_bit all in
    let small = highest_small all in
    let back = nri_back f (highest_nri all) small in
    record {
      forbidden = f_back f (highest_nri all) small;
      type = stap_type f (highest_nri all);
      nri = record { there = is_there first units _ back; most = all_most _ all (omega (arith, back)) };
    }
