-- Every unit is received.
use Rattle.std.proofs.Common.{◌≡◌, ℕ, ◌≤◌, Bool, true, false, cond, List, [], ◌∷◌, ◌++◌, length, refl, ap, ◌∙◌, arith, append_assoc}
use Rattle.std.specs.Prelude.{IsTrue}
use Rattle.std.specs.List.{AllByRecursion, flat_map, list_all}
use Rattle.std.proofs.lemmas.Bool.{and_parts}
use Rattle.std.proofs.lemmas.List.{append-nil}
use Rattle.std.proofs.lemmas.List.Concat.{flat_map-append}
use Rattle.h26x_model.specs.Payload.Format.{Format, IsLimit}
use Rattle.h26x_model.specs.Payload.Facts.{ReadsWhatItWrites, AreCarried, CanSend}
use Rattle.h26x_model.specs.Send.Plan.{is_dropped, item_units}
use Rattle.h26x_model.proofs.LimitLemmas.{all_both}
use Rattle.h26x_model.proofs.SentLemmas.{all_received}
use Rattle.h26x_model.specs.Send.Every.{go_together, groups_from, units_items, every_unit, AreSendable, BringsEveryUnit, SendsEveryUnit}

-- a group's units
group_units : (limit : ℕ) (group : List (List ℕ)) → flat_map item_units (units_items limit group) ≡ group
group_units limit [] = refl
group_units limit (unit ∷ []) = refl
group_units limit (unit ∷ other ∷ units) = append-nil (unit ∷ other ∷ units)

-- the units of groups, in order
groups_units : (together : List (List ℕ) → Bool) (limit : ℕ) (begun units : List (List ℕ)) →
    flat_map item_units (flat_map (units_items limit) (groups_from together begun units)) ≡ begun ++ units
groups_units together limit begun [] = flat_map-append item_units (units_items limit begun) [] ∙ ap (λ (x : List (List ℕ)). x ++ []) (group_units limit begun)
groups_units together limit begun (unit ∷ units) =
    elim (together (begun ++ unit ∷ [])) as (λ b.
    flat_map item_units (flat_map (units_items limit) (cond b (groups_from together (begun ++ unit ∷ []) units) (begun ∷ groups_from together (unit ∷ []) units))) ≡ begun ++ unit ∷ units) [
      | true ↦ groups_units together limit (begun ++ unit ∷ []) units ∙ append_assoc begun (unit ∷ []) units
      | false ↦ flat_map-append item_units (units_items limit begun) (flat_map (units_items limit) (groups_from together (unit ∷ []) units))
          ∙ rw (group_units limit begun, groups_units together limit (unit ∷ []) units) refl
    ]

-- all units are sent, in order
all_units : (f : Format) (may : List ℕ → Bool) (limit : ℕ) (units : List (List ℕ)) → flat_map item_units (every_unit f may limit units) ≡ units
all_units f may limit [] = refl
all_units f may limit (unit ∷ units) = groups_units (go_together f may limit) limit (unit ∷ []) units

-- what holds of a unit that can go alone
abbrev Goes : Format → ℕ → List ℕ → Type 0
Goes f limit unit = IsTrue (f.carries unit) × (is_dropped f limit unit ≡ false)

all_go : (f : Format) (limit : ℕ) (units : List (List ℕ)) → AreCarried f units → AreSendable f limit units → AllByRecursion (Goes f limit) units
all_go f limit [] a b = tt
all_go f limit (unit ∷ units) a b = ((a.0, b.0), all_go f limit units a.1 b.1)

only_carried : (f : Format) (limit : ℕ) (units : List (List ℕ)) → AllByRecursion (Goes f limit) units → AreCarried f units
only_carried f limit [] a = tt
only_carried f limit (unit ∷ units) a = (a.0.0, only_carried f limit units a.1)

-- a group can be sent: where it has several units they go together
group_sent : (f : Format) → ReadsWhatItWrites f → (limit : ℕ) → IsLimit f limit → (group : List (List ℕ)) → AllByRecursion (Goes f limit) group →
    (2 ≤ length group → f.sets_fit limit group ≡ true) → AllByRecursion (CanSend f) (units_items limit group)
group_sent f reads limit is [] go fit = tt
group_sent f reads limit is (unit ∷ []) go fit = (go.0, tt)
group_sent f reads limit is (unit ∷ other ∷ units) go fit =
    (λ n. reads.sets n limit (unit ∷ other ∷ units) unit is (fit (omega arith)) (omega arith) (only_carried f limit (unit ∷ other ∷ units) go) go.0.0, tt)

-- so can all groups
groups_sent : (f : Format) → ReadsWhatItWrites f → (may : List ℕ → Bool) (limit : ℕ) → IsLimit f limit → (begun units : List (List ℕ)) →
    AllByRecursion (Goes f limit) begun → (2 ≤ length begun → f.sets_fit limit begun ≡ true) → AllByRecursion (Goes f limit) units →
    AllByRecursion (CanSend f) (flat_map (units_items limit) (groups_from (go_together f may limit) begun units))
groups_sent f reads may limit is begun [] go fit others = all_both (CanSend f) (units_items limit begun) [] (group_sent f reads limit is begun go fit) tt
groups_sent f reads may limit is begun (unit ∷ units) go fit others =
    elim (go_together f may limit (begun ++ unit ∷ [])) as (λ b. go_together f may limit (begun ++ unit ∷ []) ≡ b →
    AllByRecursion (CanSend f) (flat_map (units_items limit) (cond b (groups_from (go_together f may limit) (begun ++ unit ∷ []) units)
    (begun ∷ groups_from (go_together f may limit) (unit ∷ []) units)))) [
      | true ↦ λ together. groups_sent f reads may limit is (begun ++ unit ∷ []) units (all_both (Goes f limit) begun (unit ∷ []) go (others.0, tt))
          (λ two. (and_parts (list_all may (begun ++ unit ∷ [])) (f.sets_fit limit (begun ++ unit ∷ [])) together).1) others.1
      | false ↦ λ apart. all_both (CanSend f) (units_items limit begun) (flat_map (units_items limit) (groups_from (go_together f may limit) (unit ∷ []) units))
          (group_sent f reads limit is begun go fit)
          (groups_sent f reads may limit is (unit ∷ []) units (others.0, tt) (λ two. absurd (omega (arith, two))) others.1)
    ] refl

all_sent : (f : Format) → ReadsWhatItWrites f → (may : List ℕ → Bool) (limit : ℕ) → IsLimit f limit → (units : List (List ℕ)) → AllByRecursion (Goes f limit) units →
    AllByRecursion (CanSend f) (every_unit f may limit units)
all_sent f reads may limit is [] go = tt
all_sent f reads may limit is (unit ∷ units) go = groups_sent f reads may limit is (unit ∷ []) units (go.0, tt) (λ two. absurd (omega (arith, two))) go.1

-- every unit is received, whatever came before
pub brings_every_unit : (f : Format) → ReadsWhatItWrites f → BringsEveryUnit f
brings_every_unit f reads may limit n units earlier is carried kept =
    all_received f reads n (every_unit f may limit units) earlier (all_sent f reads may limit is units (all_go f limit units carried kept)) ∙ all_units f may limit units

-- what is planned can be sent
pub sends_every_unit : (f : Format) → ReadsWhatItWrites f → SendsEveryUnit f
sends_every_unit f reads may limit units is carried kept = all_sent f reads may limit is units (all_go f limit units carried kept)
