-- The sets that wait, unit by unit: what a packetizer keeps (str0m's rule).
use Rattle.std.specs.Prelude.{◌≡◌, ℕ, Bool, true, ◌&&◌, if◌then◌else◌, List, [], ◌∷◌, ◌++◌, map}
use Rattle.h26x_core.specs.ByteStream.{is_not_empty}
use Rattle.h26x_core.specs.Kind.{Kind, is_vps, is_sps, is_pps, is_other}
use Rattle.h26x_model.specs.Payload.Format.{Format}
use Rattle.h26x_model.specs.Send.Group.{Entry}
use Rattle.h26x_model.specs.Send.Plan.{Item, entry_items, sets_items}

-- at most one set of each kind
pub record WaitingSets : Type 0 where
  pub vps : List (List ℕ)
  pub sps : List (List ℕ)
  pub pps : List (List ℕ)

-- no set waits
abbrev pub no_waiting_sets : WaitingSets
no_waiting_sets = record { vps = []; sps = []; pps = [] }

-- the sets that wait, in the order that they are sent in
abbrev pub sets_waiting : WaitingSets → List (List ℕ)
sets_waiting w = w.vps ++ w.sps ++ w.pps

-- the sets that wait are sent before a unit of this kind
abbrev pub sets_are_sent : Kind → WaitingSets → Bool
sets_are_sent kind w = is_other kind && is_not_empty w.sps && is_not_empty w.pps

-- the sets that wait after a unit
abbrev pub waiting_after_unit : Format → WaitingSets → List ℕ → WaitingSets
waiting_after_unit f w unit =
    if sets_are_sent (f.kind unit) w then no_waiting_sets
    else record {
      vps = if is_vps (f.kind unit) then unit ∷ [] else w.vps;
      sps = if is_sps (f.kind unit) then unit ∷ [] else w.sps;
      pps = if is_pps (f.kind unit) then unit ∷ [] else w.pps;
    }

-- what is sent when a unit comes
abbrev pub outgoing_items : Format → WaitingSets → Entry → List Item
outgoing_items f w e = (if sets_are_sent (f.kind e.unit) w
    then sets_items f e.limit (sets_waiting w) e.unit else []) ++ entry_items f e

-- the same for entries, one after the other
abbrev pub plan_with_waiting : Format → WaitingSets → List Entry → List Item
plan_with_waiting f w [] = []
plan_with_waiting f w (e ∷ entries) = outgoing_items f w e
    ++ plan_with_waiting f (waiting_after_unit f w e.unit) entries

-- the sets that wait after entries, one after the other
abbrev pub waiting_after : Format → WaitingSets → List Entry → WaitingSets
waiting_after f w [] = w
waiting_after f w (e ∷ entries) = waiting_after f (waiting_after_unit f w e.unit) entries

-- units as entries
abbrev pub entries_with_limit : ℕ → List (List ℕ) → List Entry
entries_with_limit limit units = map (λ unit. record { unit = unit; limit = limit }) units

-- what may wait: no set, or one of its kind
pub data IsOneSet (is_it : Kind → Bool) (f : Format) : List (List ℕ) → Type 0 where
  NoSet : IsOneSet is_it f []
  OneSet : (unit : List ℕ) → is_it (f.kind unit) ≡ true → IsOneSet is_it f (unit ∷ [])

-- of each kind no set waits, or one of this kind
pub record AreWaitingSets (f : Format) (w : WaitingSets) : Type 0 where
  pub vps : IsOneSet is_vps f w.vps
  pub sps : IsOneSet is_sps f w.sps
  pub pps : IsOneSet is_pps f w.pps
