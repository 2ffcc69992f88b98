-- The packets of every unit are within the limit.
use Rattle.std.proofs.Common.{◌≡◌, ℕ, ◌+◌, ◌≤◌, Bool, true, false, cond, List, [], ◌∷◌, ◌++◌, length, refl, arith}
use Rattle.std.specs.Prelude.{◌&&◌}
use Rattle.std.specs.List.{AllByRecursion, flat_map, list_all}
use Rattle.std.proofs.lemmas.Bool.{and_parts}
use Rattle.h26x_model.specs.Payload.Format.{Format}
use Rattle.h26x_model.specs.Payload.Facts.{FitsLimits}
use Rattle.h26x_model.specs.Send.Limit.{AreWithinLimit}
use Rattle.h26x_model.specs.Send.Packets.{item_packets, plan_packets}
use Rattle.h26x_model.specs.Send.Plan.{Item, is_dropped, item_units}
use Rattle.h26x_model.proofs.LimitLemmas.{all_both, alone_within}
use Rattle.h26x_model.specs.Send.Every.{go_together, groups_from, units_items, every_unit, AreSendable, EveryIsWithin}

-- the packets of an item are within a limit, whatever their number
abbrev IsWithin : Format → ℕ → Item → Type 0
IsWithin f limit item = (n : ℕ) → AreWithinLimit limit (item_packets f n item)

all_within : (f : Format) (limit n : ℕ) (items : List Item) → AllByRecursion (IsWithin f limit) items → AreWithinLimit limit (plan_packets f n items)
all_within f limit n [] h = tt
all_within f limit n (item ∷ items) (here, later) =
    all_both (λ packet. length packet ≤ limit) (item_packets f n item) (plan_packets f (n + length (item_units item)) items) (here n)
    (all_within f limit (n + length (item_units item)) items later)

group_within : (f : Format) → FitsLimits f → (limit : ℕ) (group : List (List ℕ)) → AreSendable f limit group → (2 ≤ length group → f.sets_fit limit group ≡ true) →
    AllByRecursion (IsWithin f limit) (units_items limit group)
group_within f ok limit [] kept fit = tt
group_within f ok limit (unit ∷ []) kept fit = (λ n. alone_within f ok limit unit kept.0 n, tt)
group_within f ok limit (unit ∷ other ∷ units) kept fit = (λ n. (ok.sets limit n (unit ∷ other ∷ units) unit (fit (omega arith)), tt), tt)

groups_within : (f : Format) → FitsLimits f → (may : List ℕ → Bool) (limit : ℕ) (begun units : List (List ℕ)) → AreSendable f limit begun →
    (2 ≤ length begun → f.sets_fit limit begun ≡ true) → AreSendable f limit units →
    AllByRecursion (IsWithin f limit) (flat_map (units_items limit) (groups_from (go_together f may limit) begun units))
groups_within f ok may limit begun [] kept fit others = all_both (IsWithin f limit) (units_items limit begun) [] (group_within f ok limit begun kept fit) tt
groups_within f ok may limit begun (unit ∷ units) kept fit others =
    elim (go_together f may limit (begun ++ unit ∷ [])) as (λ b. go_together f may limit (begun ++ unit ∷ []) ≡ b →
    AllByRecursion (IsWithin f limit) (flat_map (units_items limit) (cond b (groups_from (go_together f may limit) (begun ++ unit ∷ []) units)
    (begun ∷ groups_from (go_together f may limit) (unit ∷ []) units)))) [
      | true ↦ λ together. groups_within f ok may limit (begun ++ unit ∷ []) units (all_both (λ unit. is_dropped f limit unit ≡ false) begun (unit ∷ []) kept (others.0, tt))
          (λ two. (and_parts (list_all may (begun ++ unit ∷ [])) (f.sets_fit limit (begun ++ unit ∷ [])) together).1) others.1
      | false ↦ λ apart. all_both (IsWithin f limit) (units_items limit begun) (flat_map (units_items limit) (groups_from (go_together f may limit) (unit ∷ []) units))
          (group_within f ok limit begun kept fit)
          (groups_within f ok may limit (unit ∷ []) units (others.0, tt) (λ two. absurd (omega (arith, two))) others.1)
    ] refl

-- none is longer than the limit
pub every_within : (f : Format) → FitsLimits f → EveryIsWithin f
every_within f ok may limit n [] kept = tt
every_within f ok may limit n (unit ∷ units) kept =
    all_within f limit n (every_unit f may limit (unit ∷ units)) (groups_within f ok may limit (unit ∷ []) units (kept.0, tt) (λ two. absurd (omega (arith, two))) kept.1)
