-- Groups of units that are sent one after the other, for every format.
use Rattle.std.proofs.Common.{◌≡◌, ℕ, ◌+◌, ◌≤◌, Bool, true, false, List, [], ◌∷◌, ◌++◌, length, take, drop, suc, zero, refl, cond, ap, ◌∙◌, arith, length-append}
use Rattle.std.specs.List.{flat_map, AllByRecursion}
use Rattle.std.specs.Borrow.{Bor}
use Rattle.h26x_model.specs.Payload.Format.{Format, IsLimit, donl_len, fragment_header_len}
use Rattle.h26x_model.specs.Send.Calls.{packet_limit}
use Rattle.std.specs.Prelude.{Option, Some, None, nat_lt, nat_le}
use Rattle.std.proofs.lemmas.List.{append-nil, take_all, length-drop, nil_from_length}
use Rattle.std.proofs.lemmas.List.Concat.{flat_map-append}
use Rattle.std.proofs.lemmas.Bool.Decides.{nat_tests}
use Rattle.h26x_model.specs.Send.Plan.{Item, item_units, is_dropped, fits_one_packet}
use Rattle.h26x_model.specs.Send.Every.{every_unit, groups_of, groups_from, go_together, units_items, AreSendable, has_f_bit, has_own_header}
use Rattle.h26x_packetizer.specs.Sending.{ArePushed, unit_count}
use Rattle.h26x_packetizer.specs.Group.{lent_units, HaveHeaders}
use Rattle.h26x_packetizer.specs.Refusal.{unit_refusal, units_refusal, first_refusal, is_too_long}
use Rattle.h26x_packetizer.specs.declared.packing.Packing.{Packing}
use Rattle.h26x_packetizer.specs.declared.packing.Packing.TheVariants as p
use Rattle.h26x_packetizer.specs.declared.refusal.WhyRefused.{WhyRefused}
use Rattle.h26x_packetizer.specs.declared.refusal.WhyRefused.TheVariants.{WithoutHeader, Forbidden, OfPacketType, TooLong}
use Rattle.h26x_packetizer.specs.declared.refusal.RefusedUnit.{RefusedUnit}
use Rattle.h26x_packetizer.proofs.SendLemmas.{CountsByTwoBytes, sends_then}

pub lent_take : (k : ℕ) (units : List (Bor (List ℕ))) → lent_units (take k units) ≡ take k (lent_units units)
lent_take zero units = refl
lent_take (suc k) [] = refl
lent_take (suc k) (unit ∷ units) = ap (λ (x : List (List ℕ)). unit.now ∷ x) (lent_take k units)

pub lent_drop : (k : ℕ) (units : List (Bor (List ℕ))) → lent_units (drop k units) ≡ drop k (lent_units units)
lent_drop zero units = refl
lent_drop (suc k) [] = refl
lent_drop (suc k) (unit ∷ units) = lent_drop k units

-- what holds of all units holds of the first of them, and of the others
pub all_take : (P : List ℕ → Type 0) (k : ℕ) (units : List (List ℕ)) → AllByRecursion P units → AllByRecursion P (take k units)
all_take P zero units all = tt
all_take P (suc k) [] all = tt
all_take P (suc k) (unit ∷ units) (here, all) = (here, all_take P k units all)

pub all_drop : (P : List ℕ → Type 0) (k : ℕ) (units : List (List ℕ)) → AllByRecursion P units → AllByRecursion P (drop k units)
all_drop P zero units all = all
all_drop P (suc k) [] all = tt
all_drop P (suc k) (unit ∷ units) (here, all) = all_drop P k units all

-- a group is sent, and then the units behind it
pub every_more : (f : Format) → CountsByTwoBytes f → (share : List ℕ → Bool) (limit n m next k : ℕ) (units group behind : List (Bor (List ℕ))) (x y z : List (List ℕ)) →
    groups_of (go_together f share limit) (lent_units units) ≡ take k (lent_units units) ∷ groups_of (go_together f share limit) (drop k (lent_units units)) →
    group ≡ take k units → behind ≡ drop k units → ArePushed f n (units_items limit (lent_units group)) x y m → ArePushed f m (every_unit f share limit (lent_units behind)) y z next →
    ArePushed f n (every_unit f share limit (lent_units units)) x z next
every_more f bytes share limit n m next k units group behind x y z split is_group is_behind here later =
    let v : lent_units group ≡ take k (lent_units units) = ap lent_units is_group ∙ lent_take k units in
    let w : lent_units behind ≡ drop k (lent_units units) = ap lent_units is_behind ∙ lent_drop k units in
    let items : every_unit f share limit (lent_units units) ≡ units_items limit (lent_units group) ++ every_unit f share limit (lent_units behind) =
    ap (flat_map (units_items limit)) split ∙ rw (v, w) refl in
    rw items (sends_then f bytes n m next (units_items limit (lent_units group)) (every_unit f share limit (lent_units behind)) x y z here later)

-- of units that are one group this group is sent
pub one_group : (f : Format) (share : List ℕ → Bool) (limit k : ℕ) (units : List (List ℕ)) →
    groups_of (go_together f share limit) units ≡ take k units ∷ groups_of (go_together f share limit) (drop k units) → k ≡ length units → every_unit f share limit units ≡ units_items limit units
one_group f share limit k units split all =
    let l = length-drop k units in
    let whole : take k units ≡ units = take_all k units (omega (arith, all)) in
    let none : drop k units ≡ [] = nil_from_length (drop k units) (omega (arith, l, all)) in
    ap (flat_map (units_items limit)) split ∙ rw (whole, none) (append-nil (units_items limit units))

-- items that send some units, and then others
count_append : (a b : List Item) → unit_count (a ++ b) ≡ unit_count a + unit_count b
count_append a b = ap length (flat_map-append item_units a b) ∙ length-append _ _

-- a group sends its units
group_count : (limit : ℕ) (group : List (List ℕ)) → unit_count (units_items limit group) ≡ length group
group_count limit [] = refl
group_count limit (unit ∷ []) = refl
group_count limit (unit ∷ other ∷ units) = ap length (append-nil (unit ∷ other ∷ units))

groups_count : (together : List (List ℕ) → Bool) (limit : ℕ) (begun units : List (List ℕ)) → unit_count (flat_map (units_items limit) (groups_from together begun units)) ≡ length begun + length units
groups_count together limit begun [] =
    let a = count_append (units_items limit begun) [] in
    let b = group_count limit begun in
    let none : unit_count [] ≡ 0 = refl in
    omega (arith, a, b, none)
groups_count together limit begun (unit ∷ units) = elim (together (begun ++ unit ∷ [])) as (λ b. unit_count (flat_map (units_items limit) (cond b (groups_from together (begun ++ unit ∷ []) units) (begun ∷ groups_from together (unit ∷ []) units))) ≡ length begun + suc (length units)) [
  | true ↦ let h = groups_count together limit (begun ++ unit ∷ []) units in let l = length-append begun (unit ∷ []) in omega (arith, h, l)
  | false ↦
      let h = groups_count together limit (unit ∷ []) units in
      let a = count_append (units_items limit begun) (flat_map (units_items limit) (groups_from together (unit ∷ []) units)) in
      let b = group_count limit begun in
      omega (arith, h, a, b)
]

-- all units are sent
pub every_count : (f : Format) (share : List ℕ → Bool) (limit : ℕ) (units : List (List ℕ)) → unit_count (every_unit f share limit units) ≡ length units
every_count f share limit [] = refl
every_count f share limit (unit ∷ units) = let h = groups_count (go_together f share limit) limit (unit ∷ []) units in h ∙ omega arith

-- a unit that isn't too long isn't dropped
not_dropped : (f : Format) (packing : Packing) (limit : ℕ) (unit : List ℕ) → is_too_long f packing limit unit ≡ false → is_dropped f limit unit ≡ false
not_dropped f p.Together limit unit short = short
not_dropped f p.BeforeSlices limit unit short = short
not_dropped f p.Apart limit unit short = short
not_dropped f p.Single limit unit short = elim (fits_one_packet f limit unit) as (λ b. cond b false true ≡ false → cond b false (nat_le limit (fragment_header_len f + donl_len f)) ≡ false) [
  | true ↦ λ _. refl
  | false ↦ λ e. absurd cc
] short

-- a unit that isn't refused has a whole header, and isn't dropped
one_goes : (f : Format) (packing : Packing) (limit : ℕ) (unit : List ℕ) → unit_refusal f packing limit unit ≡ None → (f.header_len ≤ length unit) × (is_dropped f limit unit ≡ false)
one_goes f packing limit unit none = elim (nat_lt (length unit) f.header_len) as (λ b. nat_lt (length unit) f.header_len ≡ b →
    cond b (Some WithoutHeader) (cond (has_f_bit unit) (Some Forbidden) (cond (has_own_header f unit) (cond (is_too_long f packing limit unit) (Some TooLong) None) (Some OfPacketType))) ≡ None →
    (f.header_len ≤ length unit) × (is_dropped f limit unit ≡ false)) [
      | true ↦ λ _ e. absurd cc
      | false ↦ λ long e. (grind (arith, nat_tests, long), not_dropped f packing limit unit (third (is_too_long f packing limit unit) (second (has_own_header f unit) _ (first (has_f_bit unit) _ e))))
    ] refl none
  where
    first : (b : Bool) (r : Option WhyRefused) → cond b (Some Forbidden) r ≡ None → r ≡ None
    first true r e = absurd cc
    first false r e = e

    second : (b : Bool) (r : Option WhyRefused) → cond b r (Some OfPacketType) ≡ None → r ≡ None
    second true r e = e
    second false r e = absurd cc

    third : (b : Bool) → cond b (Some TooLong) None ≡ None → b ≡ false
    third true e = absurd cc
    third false e = refl

-- where none of a list is refused, neither is the first, nor one of the others
first_none : (r : Option WhyRefused) (place len : ℕ) (others : Option RefusedUnit) → first_refusal r place len others ≡ None → (r ≡ None) × (others ≡ None)
first_none None place len others e = (refl, e)
first_none (Some why) place len others e = absurd cc

-- of units of which none is refused each has a whole header, and none is dropped for its size
pub none_refused : (f : Format) (packing : Packing) (limit place : ℕ) (units : List (List ℕ)) → units_refusal f packing limit place units ≡ None → HaveHeaders f units × AreSendable f limit units
none_refused f packing limit place [] none = (tt, tt)
none_refused f packing limit place (unit ∷ units) none =
    let parts = first_none (unit_refusal f packing limit unit) place (length unit) (units_refusal f packing limit (place + 1) units) none in
    let here = one_goes f packing limit unit parts.0 in
    let others = none_refused f packing limit (place + 1) units parts.1 in
    ((here.0, others.0), (here.1, others.1))

-- a limit that a packetizer can have
pub limit_small : (f : Format) (size mtu : ℕ) → size ≤ 65535 → IsLimit f (packet_limit f size mtu)
limit_small f size mtu small = λ is. rw is (omega (arith, small))
