-- What was sent, sent again (ours).
use Rattle.std.specs.Prelude.{◌≡◌, ℕ, false, List, IsTrue}
use Rattle.std.specs.List.{flat_map, AllByRecursion}
use Rattle.h26x_core.specs.Kind.{is_other}
use Rattle.h26x_model.specs.Payload.Format.{Format}
use Rattle.h26x_model.specs.Send.Group.{Entry, Group, split, latest_sets}
use Rattle.h26x_model.specs.Send.Plan.{item_units, sets_items, is_dropped, plan, units_sent}
use Rattle.h26x_model.specs.Send.WaitingSets.{entries_with_limit}

-- an other unit is not dropped for its size
abbrev pub KeepsUnit : Format → Entry → Type 0
KeepsUnit f entry = IsTrue (is_other (f.kind entry.unit)) →
    is_dropped f entry.limit entry.unit ≡ false

-- no set of a group is dropped for its size
abbrev pub KeepsSets : Format → Group → Type 0
KeepsSets f g = flat_map item_units (sets_items f g.last.limit
    (latest_sets f g.front) g.last.unit) ≡ latest_sets f g.front

-- nothing of these entries is dropped for its size
pub record NothingDropped (f : Format) (entries : List Entry) : Type 0 where
  pub units : AllByRecursion (KeepsUnit f) entries
  pub sets : AllByRecursion (KeepsSets f) (split f entries).groups

-- what units sent, with nothing dropped for its size, is sent again at the same limit
abbrev pub IsSentAlike : Format → ℕ → List (List ℕ) → List (List ℕ) → Type 0
IsSentAlike f limit units sent = NothingDropped f (entries_with_limit limit units) →
    sent ≡ units_sent f (entries_with_limit limit units) →
    units_sent f (entries_with_limit limit sent) ≡ sent

-- The plan of what was sent is the plan that it was sent by, at one limit with nothing dropped; so
-- what is sent is too.
pub record IsSteady (f : Format) (limit : ℕ) (units : List (List ℕ)) : Type 0 where
  pub same_plan : plan f (entries_with_limit limit (units_sent f (entries_with_limit limit units)))
      ≡ plan f
      (entries_with_limit limit units)
  pub same_units : units_sent f (entries_with_limit limit
      (units_sent f (entries_with_limit limit units))) ≡ units_sent f
      (entries_with_limit limit units)
