-- Groups: units up to one before which parameter sets are due (str0m's rule).
use Rattle.std.specs.Prelude.{◌≡◌, ℕ, Bool, false, ◌&&◌, if◌then◌else◌, List, [], ◌∷◌, ◌++◌, IsTrue}
use Rattle.std.specs.List.{list_any}
use Rattle.h26x_core.specs.Kind.{Kind, is_vps, is_sps, is_pps, is_other}
use Rattle.h26x_model.specs.Payload.Format.{Format}

-- a unit, and the limit of the call that brought it
pub record Entry : Type 0 where
  pub unit : List ℕ
  pub limit : ℕ

-- an other unit with an SPS and a PPS before it
abbrev pub completes_group : Format → List Entry → Entry → Bool
completes_group f front entry =
    is_other (f.kind entry.unit) && list_any (λ e. is_sps (f.kind e.unit)) front
    && list_any (λ e. is_pps (f.kind e.unit)) front

-- a group: the shortest front of a list that ends in such a unit
pub record Group : Type 0 where
  pub front : List Entry
  pub last : Entry

-- no unit of the list has an SPS and a PPS before it in the list and is an other unit
abbrev pub CompletesNoGroup : Format → List Entry → Type 0
CompletesNoGroup f entries = (before after : List Entry) (entry : Entry) →
    entries ≡ before ++ entry ∷ after →
    completes_group f before entry ≡ false

-- the list is these groups, one after the other, and then a rest that has none as a front
abbrev pub AreGroups : Format → List Entry → List Group → List Entry → Type 0
AreGroups f entries [] rest = (entries ≡ rest) × CompletesNoGroup f rest
AreGroups f entries (g ∷ groups) rest =
    (later : List Entry) × (entries ≡ g.front ++ g.last ∷ later) × CompletesNoGroup f g.front
    × IsTrue (completes_group f g.front g.last) × AreGroups f later groups rest

-- the same, computed: what a front and the entries after it split into
pub record Split : Type 0 where
  pub groups : List Group
  pub rest : List Entry

-- one group more before the others
abbrev pub with_group : Group → Split → Split
with_group g s = record { groups = g ∷ s.groups; rest = s.rest }

-- the groups and the rest of entries behind a front of which none is completed
abbrev pub split_from : Format → List Entry → List Entry → Split
split_from f front [] = record { groups = []; rest = front }
split_from f front (e ∷ entries) =
    if completes_group f front e
    then with_group (record { front = front; last = e }) (split_from f [] entries)
    else split_from f (front ++ e ∷ []) entries

-- the groups and the rest of a list
abbrev pub split : Format → List Entry → Split
split f entries = split_from f [] entries

-- the latest unit of a kind, if there is one
abbrev pub latest_of_kind : (Kind → Bool) → Format → List Entry → List (List ℕ)
latest_of_kind is_it f [] = []
latest_of_kind is_it f (e ∷ entries) =
    if list_any (λ later. is_it (f.kind later.unit)) entries then latest_of_kind is_it f entries
    else (if is_it (f.kind e.unit) then e.unit ∷ [] else [])

-- the sets that wait after these entries: the latest VPS, SPS and PPS, as far as each is there
abbrev pub latest_sets : Format → List Entry → List (List ℕ)
latest_sets f entries = latest_of_kind is_vps f entries ++ latest_of_kind is_sps f entries
    ++ latest_of_kind is_pps f entries
