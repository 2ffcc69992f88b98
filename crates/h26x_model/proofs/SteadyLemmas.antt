-- What was sent with nothing dropped is sent again.
use Rattle.std.proofs.Common.{◌≡◌, ℕ, true, false, cond, List, [], ◌∷◌, ◌++◌, refl, sym, ap, ◌∙◌}
use Rattle.std.specs.List.{AllByRecursion, flat_map}
use Rattle.h26x_model.specs.Payload.Format.{Format}
use Rattle.h26x_model.specs.Send.Group.{Entry, completes_group, split_from, with_group}
use Rattle.h26x_model.specs.Send.Plan.{item_units, plan, units_sent}
use Rattle.h26x_model.specs.Send.WaitingSets.{entries_with_limit}
use Rattle.h26x_model.specs.Send.Again.{KeepsUnit, KeepsSets, NothingDropped, IsSteady}
use Rattle.h26x_model.proofs.PlanLemmas.{tail, plan-tail}
use Rattle.h26x_model.proofs.AgainLemmas.{as_entry, as_entries, Kept, sent_again}

-- where nothing is dropped of the units, and of the sets of the groups that follow a front, nothing is dropped behind it
kept_from : (f : Format) (limit : ℕ) (front : List Entry) (units : List (List ℕ)) →
    AllByRecursion (KeepsUnit f) (as_entries limit units) → AllByRecursion (KeepsSets f) (split_from f front (as_entries limit units)).groups → Kept f limit front units
unfolding as_entry as_entries Kept
kept_from f limit front [] each sets = tt
kept_from f limit front (u ∷ units) (here, later) sets =
    elim (completes_group f front (as_entry limit u)) as (λ b. completes_group f front (as_entry limit u) ≡ b →
    AllByRecursion (KeepsSets f) (cond b
    (with_group (record { front = front; last = as_entry limit u }) (split_from f [] (as_entries limit units)))
    (split_from f (front ++ as_entry limit u ∷ []) (as_entries limit units))).groups →
    Kept f limit front (u ∷ units)) [
      | true ↦ λ done kept. (here, (λ _. kept.0), rw done (kept_from f limit [] units later kept.1))
      | false ↦ λ never kept. (here, (λ done. absurd cc), rw never (kept_from f limit (front ++ as_entry limit u ∷ []) units later kept))
    ] refl sets

-- the plan of what was sent is the plan, so what is sent is the same
pub steady : (f : Format) (limit : ℕ) (units : List (List ℕ)) → NothingDropped f (entries_with_limit limit units) → IsSteady f limit units
unfolding as_entry as_entries
steady f limit units h =
    let first = plan-tail f (entries_with_limit limit units) in
    let again : plan f (entries_with_limit limit (units_sent f (entries_with_limit limit units))) ≡ plan f (entries_with_limit limit units) =
    plan-tail f (entries_with_limit limit (units_sent f (entries_with_limit limit units)))
    ∙ ap (λ items. tail f [] (entries_with_limit limit (flat_map item_units items))) first
    ∙ sent_again f limit [] units (kept_from f limit [] units h.units h.sets)
    ∙ sym first in
    record { same_plan = again; same_units = ap (flat_map item_units) again }
