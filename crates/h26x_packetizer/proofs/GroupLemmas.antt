-- The first group of units, as it is found from left to right by the room that is left.
use Rattle.std.proofs.Common.{◌≡◌, ℕ, ◌+◌, ◌-◌, ◌<◌, ◌≤◌, Bool, true, false, cond, List, [], ◌∷◌, ◌++◌, suc, length, take, drop, get_or, refl, sym, ap, ◌∙◌, arith, append_assoc}
use Rattle.std.specs.Prelude.{◌&&◌, nat_le, nat_lt}
use Rattle.std.specs.List.{sum_by, list_all}
use Rattle.std.specs.Borrow.{Bor}
use Rattle.std.proofs.Math.Bool.{and-true}
use Rattle.std.proofs.lemmas.Bool.{and_parts, and_from}
use Rattle.std.proofs.lemmas.Bool.Decides.{nat_tests}
use Rattle.std.proofs.lemmas.List.{append-nil, drop_more, nil_from_length, length-drop}
use Rattle.std.proofs.lemmas.List.Folds.{list_all-append}
use Rattle.std.proofs.lemmas.List.Sums.{sum_by-cons, sum_by_push}
use Rattle.h26x_model.specs.Payload.Format.{Format, IsLimit}
use Rattle.h26x_model.specs.Send.Every.{go_together, groups_from, groups_of, sum_fits, FitsBySum}
use Rattle.h26x_model.proofs.PieceRoomLemmas.{behind}
use Rattle.h26x_packetizer.specs.Group.{lent_units, fits_room, fitting}

-- whether two bytes hold the length of a unit
abbrev pub is_short : List ℕ → Bool
is_short unit = nat_lt (length unit) 65536

-- units that go together, and the room that is left
record Goes (share : List ℕ → Bool) (start each limit room : ℕ) (group : List (List ℕ)) : Type 0 where
  pub some : 1 ≤ length group
  pub sum : start + sum_by (behind each) group + room ≡ limit
  pub short : list_all is_short group ≡ true
  pub shared : list_all share group ≡ true

-- a sum that fits by what is left
fits_left : (start each limit room sum : ℕ) (unit : List ℕ) → start + sum + room ≡ limit → nat_le (start + (sum + (each + length unit))) limit ≡ nat_le (each + length unit) room
fits_left start each limit room sum unit is =
    elim (nat_le (each + length unit) room) as (λ b. nat_le (each + length unit) room ≡ b → nat_le (start + (sum + (each + length unit))) limit ≡ b) [
      | true ↦ λ ok. let le : each + length unit ≤ room = grind (arith, nat_tests, ok) in let all : start + (sum + (each + length unit)) ≤ limit = omega (arith, le, is) in grind (arith, nat_tests, all)
      | false ↦ λ refused. let lt : room < each + length unit = grind (arith, nat_tests, refused) in let all : limit < start + (sum + (each + length unit)) = omega (arith, lt, is) in grind (arith, nat_tests, all)
    ] refl

-- all of a list and one more
all_one : (p : List ℕ → Bool) (group : List (List ℕ)) (unit : List ℕ) → list_all p group ≡ true → list_all p (group ++ unit ∷ []) ≡ p unit
all_one p group unit all = list_all-append p group (unit ∷ []) ∙ ap (λ b. b && (p unit && true)) all ∙ and-true (p unit)

one_length : (group : List (List ℕ)) (unit : List ℕ) → 1 ≤ length (group ++ unit ∷ [])
one_length [] unit = omega arith
one_length (x ∷ group) unit = omega arith

-- with one more unit they go together where it may and fits the room that is left
one_more : (f : Format) (share : List ℕ → Bool) (start each limit room : ℕ) (group : List (List ℕ)) (unit : List ℕ) → FitsBySum f start each → IsLimit f limit →
    start + sum_by (behind each) group + room ≡ limit → list_all is_short group ≡ true → list_all share group ≡ true →
    go_together f share limit (group ++ unit ∷ []) ≡ (share unit && fits_room each room unit)
one_more f share start each limit room group unit by_sum is sum short shared =
    let fit : f.sets_fit limit (group ++ unit ∷ []) ≡ fits_room each room unit =
    by_sum limit (group ++ unit ∷ []) is (one_length group unit)
    ∙ ap (λ n. nat_le (start + n) limit && list_all is_short (group ++ unit ∷ [])) (sum_by_push (behind each) group unit)
    ∙ ap (λ b. b && list_all is_short (group ++ unit ∷ [])) (fits_left start each limit room (sum_by (behind each) group) unit sum)
    ∙ ap (λ b. nat_le (each + length unit) room && b) (all_one is_short group unit short) in
    ap (λ b. b && f.sets_fit limit (group ++ unit ∷ [])) (all_one share group unit shared) ∙ ap (λ b. share unit && b) fit

-- a unit that goes with them leaves so much room
next_goes : (share : List ℕ → Bool) (start each limit room : ℕ) (group : List (List ℕ)) (unit : List ℕ) → start + sum_by (behind each) group + room ≡ limit → list_all is_short group ≡ true →
    list_all share group ≡ true → (share unit && fits_room each room unit) ≡ true → Goes share start each limit (room - (each + length unit)) (group ++ unit ∷ [])
next_goes share start each limit room group unit sum short shared ok =
    let parts = and_parts (share unit) (fits_room each room unit) ok in
    let fits = and_parts (nat_le (each + length unit) room) (is_short unit) parts.1 in
    let room_test = fits.0 in
    let le : each + length unit ≤ room = grind (arith, nat_tests, room_test) in
    let s = sum_by_push (behind each) group unit in
    record {
      some = one_length group unit;
      sum = omega (arith, s, sum, le);
      short = all_one is_short group unit short ∙ fits.1;
      shared = all_one share group unit shared ∙ parts.0;
    }

-- the groups from a group on, by the room that is left
from_room : (f : Format) (share : List ℕ → Bool) (start each limit room : ℕ) (group units : List (List ℕ)) → FitsBySum f start each → IsLimit f limit → Goes share start each limit room group →
    groups_from (go_together f share limit) group units
    ≡ (group ++ take (fitting share each room units) units) ∷ groups_of (go_together f share limit) (drop (fitting share each room units) units)
from_room f share start each limit room group [] by_sum is goes = ap (λ (x : List (List ℕ)). x ∷ []) (sym (append-nil group))
from_room f share start each limit room group (unit ∷ units) by_sum is goes =
    let step = one_more f share start each limit room group unit by_sum is goes.sum goes.short goes.shared in
    elim (share unit && fits_room each room unit) as (λ b. (share unit && fits_room each room unit) ≡ b →
    groups_from (go_together f share limit) group (unit ∷ units)
    ≡ (group ++ take (cond b (suc (fitting share each (room - (each + length unit)) units)) 0) (unit ∷ units))
    ∷ groups_of (go_together f share limit) (drop (cond b (suc (fitting share each (room - (each + length unit)) units)) 0) (unit ∷ units))) [
      | true ↦ λ ok.
          let next = next_goes share start each limit room group unit goes.sum goes.short goes.shared ok in
          let k = fitting share each (room - (each + length unit)) units in
          let together : go_together f share limit (group ++ unit ∷ []) ≡ true = step ∙ ok in
          rw together (from_room f share start each limit (room - (each + length unit)) (group ++ unit ∷ []) units by_sum is next
          ∙ ap (λ (x : List (List ℕ)). x ∷ groups_of (go_together f share limit) (drop k units)) (append_assoc group (unit ∷ []) (take k units)))
      | false ↦ λ refused.
          let apart : go_together f share limit (group ++ unit ∷ []) ≡ false = step ∙ refused in
          rw apart (ap (λ (x : List (List ℕ)). x ∷ groups_from (go_together f share limit) (unit ∷ []) units) (sym (append-nil group)))
    ] refl

-- of two units that go together the first fits
first_fits : (f : Format) (share : List ℕ → Bool) (start each limit : ℕ) (unit second : List ℕ) → FitsBySum f start each → IsLimit f limit →
    go_together f share limit (unit ∷ second ∷ []) ≡ true → (share unit && fits_room each (limit - start) unit) ≡ true
first_fits f share start each limit unit second by_sum is together =
    let parts = and_parts (list_all share (unit ∷ second ∷ [])) (f.sets_fit limit (unit ∷ second ∷ [])) together in
    let shared = and_parts (share unit) (share second && true) parts.0 in
    let sums : sum_fits start each limit (unit ∷ second ∷ []) ≡ true = sym (by_sum limit (unit ∷ second ∷ []) is (omega arith)) ∙ parts.1 in
    let sum_parts = and_parts (nat_le (start + sum_by (behind each) (unit ∷ second ∷ [])) limit) (list_all is_short (unit ∷ second ∷ [])) sums in
    let short = and_parts (is_short unit) (is_short second && true) sum_parts.1 in
    let test = sum_parts.0 in
    let all : start + sum_by (behind each) (unit ∷ second ∷ []) ≤ limit = grind (arith, nat_tests, test) in
    let s : sum_by (behind each) (unit ∷ second ∷ []) ≡ behind each unit + sum_by (behind each) (second ∷ []) = sum_by-cons (behind each) unit (second ∷ []) in
    let le : each + length unit ≤ limit - start = omega (arith, all, s) in
    let room : nat_le (each + length unit) (limit - start) ≡ true = grind (arith, nat_tests, le) in
    and_from (share unit) (fits_room each (limit - start) unit) shared.0 (and_from (nat_le (each + length unit) (limit - start)) (is_short unit) room short.0)

-- where the first unit doesn't fit it goes alone
pub first_alone : (f : Format) (share : List ℕ → Bool) (start each limit : ℕ) (units : List (List ℕ)) → FitsBySum f start each → IsLimit f limit → 1 ≤ length units →
    fitting share each (limit - start) units ≡ 0 → groups_of (go_together f share limit) units ≡ take 1 units ∷ groups_of (go_together f share limit) (drop 1 units)
first_alone f share start each limit [] by_sum is some none = absurd (omega (arith, some))
first_alone f share start each limit (unit ∷ []) by_sum is some none = refl
first_alone f share start each limit (unit ∷ second ∷ units) by_sum is some none =
    let refused : (share unit && fits_room each (limit - start) unit) ≡ false =
    elim (share unit && fits_room each (limit - start) unit) as (λ b. cond b (suc (fitting share each (limit - start - (each + length unit)) (second ∷ units))) 0 ≡ 0 → b ≡ false) [
      | true ↦ λ k. absurd (omega (arith, k))
      | false ↦ λ _. refl
    ] none in
    let apart : go_together f share limit (unit ∷ second ∷ []) ≡ false =
    elim (go_together f share limit (unit ∷ second ∷ [])) as (λ b. go_together f share limit (unit ∷ second ∷ []) ≡ b → b ≡ false) [
      | true ↦ λ ok. let fits = first_fits f share start each limit unit second by_sum is ok in sym fits ∙ refused
      | false ↦ λ _. refl
    ] refl in
    rw apart refl

-- else the first group is those that fit
pub first_several : (f : Format) (share : List ℕ → Bool) (start each limit : ℕ) (units : List (List ℕ)) → FitsBySum f start each → IsLimit f limit → 1 ≤ each →
    1 ≤ fitting share each (limit - start) units →
    groups_of (go_together f share limit) units
    ≡ take (fitting share each (limit - start) units) units ∷ groups_of (go_together f share limit) (drop (fitting share each (limit - start) units) units)
first_several f share start each limit [] by_sum is each_some some = absurd (omega (arith, some))
first_several f share start each limit (unit ∷ units) by_sum is each_some some =
    elim (share unit && fits_room each (limit - start) unit) as (λ b. (share unit && fits_room each (limit - start) unit) ≡ b →
    1 ≤ cond b (suc (fitting share each (limit - start - (each + length unit)) units)) 0 →
    groups_from (go_together f share limit) (unit ∷ []) units
    ≡ take (cond b (suc (fitting share each (limit - start - (each + length unit)) units)) 0) (unit ∷ units)
    ∷ groups_of (go_together f share limit) (drop (cond b (suc (fitting share each (limit - start - (each + length unit)) units)) 0) (unit ∷ units))) [
      | true ↦ λ ok _.
          let parts = and_parts (share unit) (fits_room each (limit - start) unit) ok in
          let test = (and_parts (nat_le (each + length unit) (limit - start)) (is_short unit) parts.1).0 in
          let le : each + length unit ≤ limit - start = grind (arith, nat_tests, test) in
          from_room f share start each limit (limit - start - (each + length unit)) (unit ∷ []) units by_sum is
          (next_goes share start each limit (limit - start) [] unit (omega (arith, le, each_some)) refl refl ok)
      | false ↦ λ refused k. absurd (omega (arith, k))
    ] refl some

-- they are no more than there are
pub fitting_most : (share : List ℕ → Bool) (each room : ℕ) (units : List (List ℕ)) → fitting share each room units ≤ length units
fitting_most share each room [] = omega arith
fitting_most share each room (unit ∷ units) = elim (share unit && fits_room each room unit) as (λ b. cond b (suc (fitting share each (room - (each + length unit)) units)) 0 ≤ suc (length units)) [
  | true ↦ let h = fitting_most share each (room - (each + length unit)) units in omega (arith, h)
  | false ↦ omega arith
]

-- a unit that doesn't fit, or none: no more units fit
pub none_fits : (share : List ℕ → Bool) (each room : ℕ) (units : List (Bor (List ℕ))) (i : ℕ) (d : Bor (List ℕ)) → i < length units → (share (get_or units i d).now && fits_room each room (get_or units i d).now) ≡ false →
    fitting share each room (lent_units (drop i units)) ≡ 0
none_fits share each room units i d there over = rw (drop_more units i d there, over) refl

pub one_fits : (share : List ℕ → Bool) (each room : ℕ) (units : List (Bor (List ℕ))) (i : ℕ) (d : Bor (List ℕ)) → i < length units → (share (get_or units i d).now && fits_room each room (get_or units i d).now) ≡ true →
    fitting share each room (lent_units (drop i units)) ≡ suc (fitting share each (room - (each + length (get_or units i d).now)) (lent_units (drop (i + 1) units)))
one_fits share each room units i d there fits = rw (drop_more units i d there, fits) refl

pub none_left : (share : List ℕ → Bool) (each room : ℕ) (units : List (Bor (List ℕ))) (i : ℕ) → length units ≤ i → fitting share each room (lent_units (drop i units)) ≡ 0
none_left share each room units i past = let none : drop i units ≡ [] = nil_from_length (drop i units) (let l = length-drop i units in omega (arith, l, past)) in rw none refl
