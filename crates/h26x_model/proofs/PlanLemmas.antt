-- What is sent after a front: it depends on the front's sets alone, and a plan is what is sent after none.
use Rattle.std.proofs.Common.{◌≡◌, ℕ, Bool, true, false, cond, List, [], ◌∷◌, ◌++◌, refl, sym, ap, ◌∙◌, append_assoc}
use Rattle.std.specs.List.{flat_map, list_any}
use Rattle.std.specs.Prelude.{◌||◌}
use Rattle.std.proofs.Math.Bool.{or-true}
use Rattle.std.proofs.lemmas.List.{append-nil}
use Rattle.std.proofs.lemmas.List.Concat.{flat_map-append}
use Rattle.std.proofs.lemmas.List.Folds.{list_any-append}
use Rattle.h26x_core.specs.Kind.{Kind, is_vps, is_sps, is_pps}
use Rattle.h26x_core.specs.ByteStream.{is_not_empty}
use Rattle.h26x_model.specs.Payload.Format.{Format}
use Rattle.h26x_model.specs.Send.Group.{Entry, Split, completes_group, split_from, with_group, split, latest_of_kind, latest_sets}
use Rattle.h26x_model.specs.Send.Plan.{Item, entry_items, sets_items, group_items, plan}

-- what is sent for entries after a front of which nothing has been taken, without the front's own units
unfoldable pub tail : Format → List Entry → List Entry → List Item
tail f front [] = []
tail f front (e ∷ entries) =
    cond (completes_group f front e)
    (sets_items f e.limit (latest_sets f front) e.unit ++ (entry_items f e ++ tail f [] entries))
    (entry_items f e ++ tail f (front ++ e ∷ []) entries)

-- what is sent for groups and then a rest
abbrev items_of_split : Format → Split → List Item
items_of_split f s = flat_map (group_items f) s.groups ++ flat_map (entry_items f) s.rest

-- a group's items stand before those of the groups and the rest that follow
regroup : {X : Type 0} (a s i g r t : List X) → g ++ r ≡ t → a ++ s ++ i ++ g ++ r ≡ a ++ (s ++ (i ++ t))
regroup a s i g r t e = simp append_assoc (ap (λ x. a ++ (s ++ (i ++ x))) e)

-- what is sent for the units of a front with one entry more: as before, and then what is sent for this entry
front_more : (f : Format) (front : List Entry) (e : Entry) (t : List Item) →
    flat_map (entry_items f) (front ++ e ∷ []) ++ t ≡ flat_map (entry_items f) front ++ (entry_items f e ++ t)
front_more f front e t =
    rw (flat_map-append (entry_items f) front (e ∷ []), append-nil (entry_items f e)) (append_assoc (flat_map (entry_items f) front) (entry_items f e) t)

-- a front and entries in groups and a rest: the front's own units are sent, and then what is sent after the front
split-items : (f : Format) (front entries : List Entry) →
    items_of_split f (split_from f front entries) ≡ flat_map (entry_items f) front ++ tail f front entries
unfolding tail
split-items f front [] = sym (append-nil (flat_map (entry_items f) front))
split-items f front (e ∷ entries) =
    let sets = sets_items f e.limit (latest_sets f front) e.unit in
    let done = split_from f [] entries in
    let next = front ++ e ∷ [] in
    elim (completes_group f front e) as (λ b.
    items_of_split f (cond b (with_group (record { front = front; last = e }) done) (split_from f next entries))
    ≡ flat_map (entry_items f) front ++ cond b (sets ++ (entry_items f e ++ tail f [] entries)) (entry_items f e ++ tail f next entries)) [
      | true ↦ regroup (flat_map (entry_items f) front) sets (entry_items f e) (flat_map (group_items f) done.groups)
          (flat_map (entry_items f) done.rest) (tail f [] entries) (split-items f [] entries)
      | false ↦ split-items f next entries ∙ front_more f front e (tail f next entries)
    ]

-- a plan is what is sent after an empty front
pub plan-tail : (f : Format) (entries : List Entry) → plan f entries ≡ tail f [] entries
plan-tail f entries = split-items f [] entries

-- what falls in two parts does so behind two other parts
three : {X : Type 0} (a b t u x : List X) → x ≡ t ++ u → a ++ (b ++ x) ≡ a ++ (b ++ t) ++ u
three a b t u x e = simp append_assoc (ap (λ y. a ++ (b ++ y)) e)

-- and so behind one other part
two : {X : Type 0} (a t u x : List X) → x ≡ t ++ u → a ++ x ≡ a ++ t ++ u
two a t u x e = simp append_assoc (ap (λ y. a ++ y) e)

-- one unit or none: it is one where the test holds
one_or_none : (b : Bool) (unit : List ℕ) → (b || false) ≡ is_not_empty (cond b (unit ∷ []) [])
one_or_none true unit = refl
one_or_none false unit = refl

-- an entry that comes last is the latest of its kind; another one leaves the latest as it is
pushed : {X : Type 0} (here later : Bool) (e l d : List X) → cond (later || (here || false)) (cond here e l) d ≡ cond here e (cond later l d)
pushed true true e l d = refl
pushed true false e l d = refl
pushed false true e l d = refl
pushed false false e l d = refl

-- what is sent for two lists of entries after a front: the second counts from the rest that the first leaves
tail-append : (f : Format) (front us vs : List Entry) → tail f front (us ++ vs) ≡ tail f front us ++ tail f (split_from f front us).rest vs
unfolding tail
tail-append f front [] vs = refl
tail-append f front (e ∷ us) vs =
    let sets = sets_items f e.limit (latest_sets f front) e.unit in
    let here = entry_items f e in
    let next = front ++ e ∷ [] in
    elim (completes_group f front e) as (λ b.
    cond b (sets ++ (here ++ tail f [] (us ++ vs))) (here ++ tail f next (us ++ vs))
    ≡ cond b (sets ++ (here ++ tail f [] us)) (here ++ tail f next us)
    ++ tail f (cond b (with_group (record { front = front; last = e }) (split_from f [] us)) (split_from f next us)).rest vs) [
      | true ↦ three sets here (tail f [] us) (tail f (split_from f [] us).rest vs) (tail f [] (us ++ vs)) (tail-append f [] us vs)
      | false ↦ two here (tail f next us) (tail f (split_from f next us).rest vs) (tail f next (us ++ vs)) (tail-append f next us vs)
    ]

-- two fronts whose latest VPS, SPS and PPS are the same
pub record SameSets (f : Format) (a b : List Entry) : Type 0 where
  pub vps : latest_of_kind is_vps f a ≡ latest_of_kind is_vps f b
  pub sps : latest_of_kind is_sps f a ≡ latest_of_kind is_sps f b
  pub pps : latest_of_kind is_pps f a ≡ latest_of_kind is_pps f b

-- a unit of a kind is among entries where there is a latest one
pub any-latest : (is_it : Kind → Bool) (f : Format) (entries : List Entry) →
    list_any (λ e. is_it (f.kind e.unit)) entries ≡ is_not_empty (latest_of_kind is_it f entries)
any-latest is_it f [] = refl
any-latest is_it f (e ∷ entries) =
    let here = is_it (f.kind e.unit) in
    let later = list_any (λ (d : Entry). is_it (f.kind d.unit)) entries in
    elim (later) as (λ b. later ≡ b → (here || b) ≡ is_not_empty (cond b (latest_of_kind is_it f entries) (cond here (e.unit ∷ []) []))) [
      | true ↦ λ h. or-true here ∙ sym h ∙ any-latest is_it f entries
      | false ↦ λ _. one_or_none here e.unit
    ] refl

-- with one entry more, this one is the latest if it is of the kind, and else the latest is as before
pub latest-push : (is_it : Kind → Bool) (f : Format) (entries : List Entry) (e : Entry) →
    latest_of_kind is_it f (entries ++ e ∷ []) ≡ cond (is_it (f.kind e.unit)) (e.unit ∷ []) (latest_of_kind is_it f entries)
latest-push is_it f [] e = refl
latest-push is_it f (d ∷ entries) e =
    let here = is_it (f.kind e.unit) in
    let later = list_any (λ (c : Entry). is_it (f.kind c.unit)) entries in
    rw (list_any-append (λ (c : Entry). is_it (f.kind c.unit)) entries (e ∷ []), latest-push is_it f entries e)
    (pushed here later (e.unit ∷ []) (latest_of_kind is_it f entries) (cond (is_it (f.kind d.unit)) (d.unit ∷ []) []))

-- fronts with the same sets have the same ones with one entry more
pub same-push : (f : Format) (a b : List Entry) (e : Entry) → SameSets f a b → SameSets f (a ++ e ∷ []) (b ++ e ∷ [])
same-push f a b e s = record {
  vps = rw (latest-push is_vps f a e, latest-push is_vps f b e, s.vps) refl;
  sps = rw (latest-push is_sps f a e, latest-push is_sps f b e, s.sps) refl;
  pps = rw (latest-push is_pps f a e, latest-push is_pps f b e, s.pps) refl;
}

-- an entry completes a group after both or after neither of them
pub same-completes : (f : Format) (a b : List Entry) (e : Entry) → SameSets f a b → completes_group f a e ≡ completes_group f b e
same-completes f a b e s = rw (any-latest is_sps f a, any-latest is_pps f a, any-latest is_sps f b, any-latest is_pps f b, s.sps, s.pps) refl

-- the same sets wait after both
pub same-sets : (f : Format) (a b : List Entry) → SameSets f a b → latest_sets f a ≡ latest_sets f b
same-sets f a b s = rw (s.vps, s.sps, s.pps) refl

-- what follows a front depends on its latest sets alone
pub same-tail : (f : Format) (a b entries : List Entry) → SameSets f a b → tail f a entries ≡ tail f b entries
unfolding tail
same-tail f a b [] s = refl
same-tail f a b (e ∷ entries) s =
    rw (same-completes f a b e s, same-sets f a b s, same-tail f (a ++ e ∷ []) (b ++ e ∷ []) entries (same-push f a b e s)) refl

-- a plan of two lists of entries: the second counts from the rest that the first leaves
pub plan-append : (f : Format) (us vs : List Entry) → plan f (us ++ vs) ≡ plan f us ++ tail f (split f us).rest vs
plan-append f us vs =
    plan-tail f (us ++ vs) ∙ tail-append f [] us vs ∙ ap (λ (x : List Item). x ++ tail f (split f us).rest vs) (sym (plan-tail f us))
