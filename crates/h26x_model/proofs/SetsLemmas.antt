-- Sets behind their lengths: how long they are, the numbers that they bear, and that they hold no key unit.
use Rattle.std.proofs.Common.{◌≡◌, ℕ, zero, suc, ◌+◌, ◌%◌, ◌<◌, ◌≤◌, Bool, true, false, cond, List, [], ◌∷◌, length, map, take, Option, Some, None, refl, sym, ap, ◌∙◌, arith}
use Rattle.std.specs.Prelude.{nat_le, take_while}
use Rattle.std.specs.List.{list_any, prefix_len, sum_by, AllByRecursion}
use Rattle.std.proofs.lemmas.List.Sums.{sum_by-cons}
use Rattle.h26x_model.specs.Payload.Reading.{without_don}
use Rattle.h26x_model.specs.Payload.Format.{Format, donl_len}
use Rattle.h26x_model.specs.Payload.Don.{with_dons}
use Rattle.h26x_model.specs.Payload.Facts.{SetsLeaveRoom}

-- what sets take behind their lengths
abbrev pub room_of : List (List ℕ) → ℕ
room_of sets = sum_by (λ set. 2 + length set) sets

-- one set more
pub room_of-cons : (set : List ℕ) (sets : List (List ℕ)) → room_of (set ∷ sets) ≡ (2 + length set) + room_of sets
room_of-cons set sets = sum_by-cons (λ (x : List ℕ). 2 + length x) set sets

-- sets that fit one packet are within the limit with its header and a number
abbrev pub FitIsWithin : Format → Type 0
FitIsWithin f = (limit : ℕ) (sets : List (List ℕ)) → 1 ≤ length sets → f.sets_fit limit sets ≡ true → f.header_len + donl_len f + room_of sets ≤ limit

-- sets that are short together are short each
each_short : (most : ℕ) (sets : List (List ℕ)) → room_of sets ≤ most → most < 65536 → AllByRecursion (λ set. length set < 65536) sets
each_short most [] within small = tt
each_short most (set ∷ sets) within small = let r = room_of-cons set sets in (omega (arith, r), each_short most sets (omega (arith, r)) small)

-- two bytes hold the length of each set that fits at a call's limit
pub sets_short : (f : Format) → FitIsWithin f → (limit : ℕ) (sets : List (List ℕ)) → limit ≤ 65535 → f.sets_fit limit sets ≡ true → AllByRecursion (λ set. length set < 65536) sets
sets_short f within limit [] small fit = tt
sets_short f within limit (set ∷ sets) small fit =
    let w = within limit (set ∷ sets) (omega arith) fit in each_short limit (set ∷ sets) (omega (arith, w)) (omega arith)

-- where two sets fit, a fragment has room for data: their lengths alone take four bytes
pub sets_leave_room : (f : Format) → FitIsWithin f → SetsLeaveRoom f
sets_leave_room f within limit [] two fit = absurd (omega arith)
sets_leave_room f within limit (set ∷ []) two fit = absurd (omega arith)
sets_leave_room f within limit (set ∷ second ∷ sets) two fit =
    let w = within limit (set ∷ second ∷ sets) (omega arith) fit in
    let r = room_of-cons set (second ∷ sets) in let s = room_of-cons second sets in omega (arith, w, r, s)

-- sets without numbers are read as they are sent
pub plain_numbers : (f : Format) → f.has_donl ≡ false → (n : ℕ) (sets : List (List ℕ)) → map without_don sets ≡ with_dons f n sets
plain_numbers f none n [] = refl
plain_numbers f none n (set ∷ sets) =
    ap (λ (x : List (List ℕ × Option ℕ)). (set, None) ∷ x) (plain_numbers f none (n + 1) sets)
    ∙ ap (λ (b : Bool). (set, cond b (Some (n % 65536)) None) ∷ with_dons f (n + 1) sets) (sym none)

-- numbers go on in two bytes
pub next_number : (n : ℕ) → (n % 65536 + 1) % 65536 ≡ (n + 1) % 65536
next_number n = omega arith

-- where no set is a key unit, no front of them has one
none_in_front : (is_key : List ℕ → Bool) (n : ℕ) (sets : List (List ℕ)) → AllByRecursion (λ set. is_key set ≡ false) sets → list_any is_key (take n sets) ≡ false
none_in_front is_key zero sets none = refl
none_in_front is_key (suc n) [] none = refl
none_in_front is_key (suc n) (set ∷ sets) (here, later) = rw here (none_in_front is_key n sets later)

-- nor have those before the first without a whole header
pub no_key : (is_key : List ℕ → Bool) (sets : List (List ℕ)) → AllByRecursion (λ set. is_key set ≡ false) sets →
    list_any is_key (take_while (λ unit. nat_le 2 (length unit)) sets) ≡ false
no_key is_key sets none = none_in_front is_key (prefix_len (λ unit. nat_le 2 (length unit)) sets) sets none
