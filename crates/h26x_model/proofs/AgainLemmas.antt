-- A front counts by its sets: plans are made call by call, and what was sent is planned again as it was.
use Rattle.std.proofs.Common.{◌≡◌, ℕ, Bool, true, false, cond, List, [], ◌∷◌, ◌++◌, map, refl, sym, ap, ◌∙◌, subst, append_assoc}
use Rattle.std.specs.Prelude.{◌&&◌}
use Rattle.std.specs.List.{flat_map, list_any}
use Rattle.std.proofs.lemmas.Bool.{and_parts}
use Rattle.std.proofs.lemmas.List.{append-nil, map-append}
use Rattle.std.proofs.lemmas.List.Concat.{flat_map-append}
use Rattle.std.proofs.Math.Bool.{and-false}
use Rattle.h26x_core.specs.Kind.{Kind, Vps, Sps, Pps, Other, is_vps, is_sps, is_pps, is_other}
use Rattle.h26x_model.specs.Payload.Format.{Format}
use Rattle.h26x_model.specs.Send.Group.{Entry, completes_group, latest_of_kind, latest_sets, split, split_from, with_group}
use Rattle.h26x_model.specs.Send.Plan.{Item, Alone, is_dropped, entry_items, sets_items, item_units, plan, PlansCallByCall, WaitsCallByCall}
use Rattle.h26x_model.specs.Send.WaitingSets.{IsOneSet, NoSet, OneSet}
use Rattle.h26x_model.proofs.PlanLemmas.{tail, SameSets, same-tail, plan-append, plan-tail, same-completes, same-push, same-sets}

-- a unit, and units, as entries at one limit
unfoldable pub as_entry : ℕ → List ℕ → Entry
as_entry limit unit = record { unit = unit; limit = limit }

-- the same of a list
unfoldable pub as_entries : ℕ → List (List ℕ) → List Entry
as_entries limit units = map (as_entry limit) units

-- after a front nothing of these units is dropped for its size: no other unit, and no set that is due
unfoldable pub Kept : Format → ℕ → List Entry → List (List ℕ) → Type 0
Kept f limit front [] = Unit {0}
Kept f limit front (u ∷ units) =
    (is_other (f.kind u) ≡ true → is_dropped f limit u ≡ false)
    × (completes_group f front (as_entry limit u) ≡ true → flat_map item_units (sets_items f limit (latest_sets f front) u) ≡ latest_sets f front)
    × Kept f limit (cond (completes_group f front (as_entry limit u)) [] (front ++ as_entry limit u ∷ [])) units

-- a kind that counts as a VPS is a VPS
pub vps_is : (k : Kind) → is_vps k ≡ true → k ≡ Vps
vps_is Vps e = refl
vps_is k e = absurd cc

-- one that counts as an SPS is an SPS
pub sps_is : (k : Kind) → is_sps k ≡ true → k ≡ Sps
sps_is Sps e = refl
sps_is k e = absurd cc

-- one that counts as a PPS is a PPS
pub pps_is : (k : Kind) → is_pps k ≡ true → k ≡ Pps
pps_is Pps e = refl
pps_is k e = absurd cc

-- one that counts as an other unit is other
pub other_is : (k : Kind) → is_other k ≡ true → k ≡ Other
other_is Other e = refl
other_is k e = absurd cc

-- the latest of a kind is one unit of this kind, or there is none
one_latest : (is_it : Kind → Bool) (f : Format) (entries : List Entry) → IsOneSet is_it f (latest_of_kind is_it f entries)
one_latest is_it f [] = NoSet
one_latest is_it f (e ∷ entries) =
    elim (list_any (λ (later : Entry). is_it (f.kind later.unit)) entries) as (λ b.
    IsOneSet is_it f (cond b (latest_of_kind is_it f entries) (cond (is_it (f.kind e.unit)) (e.unit ∷ []) []))) [
      | true ↦ one_latest is_it f entries
      | false ↦ elim (is_it (f.kind e.unit)) as (λ t. is_it (f.kind e.unit) ≡ t → IsOneSet is_it f (cond t (e.unit ∷ []) [])) [
        | true ↦ λ h. OneSet e.unit h
        | false ↦ λ _. NoSet
      ] refl
    ]

-- of these units the latest of each kind are these
record Finds (f : Format) (limit : ℕ) (v s p : List (List ℕ)) : Type 0 where
  vps : latest_of_kind is_vps f (as_entries limit (v ++ s ++ p)) ≡ v
  sps : latest_of_kind is_sps f (as_entries limit (v ++ s ++ p)) ≡ s
  pps : latest_of_kind is_pps f (as_entries limit (v ++ s ++ p)) ≡ p

-- where there is at most one VPS, SPS and PPS, each is the latest of its kind
finds : (f : Format) (limit : ℕ) {v s p : List (List ℕ)} → IsOneSet is_vps f v → IsOneSet is_sps f s → IsOneSet is_pps f p → Finds f limit v s p
unfolding as_entries as_entry
finds f limit NoSet NoSet NoSet = record { vps = refl; sps = refl; pps = refl }
finds f limit (OneSet v a) NoSet NoSet =
    let a = vps_is (f.kind v) a in record { vps = rw a refl; sps = rw a refl; pps = rw a refl }
finds f limit NoSet (OneSet s b) NoSet =
    let b = sps_is (f.kind s) b in record { vps = rw b refl; sps = rw b refl; pps = rw b refl }
finds f limit NoSet NoSet (OneSet p c) =
    let c = pps_is (f.kind p) c in record { vps = rw c refl; sps = rw c refl; pps = rw c refl }
finds f limit (OneSet v a) (OneSet s b) NoSet =
    let a = vps_is (f.kind v) a in let b = sps_is (f.kind s) b in
    record { vps = rw (a, b) refl; sps = rw (a, b) refl; pps = rw (a, b) refl }
finds f limit (OneSet v a) NoSet (OneSet p c) =
    let a = vps_is (f.kind v) a in let c = pps_is (f.kind p) c in
    record { vps = rw (a, c) refl; sps = rw (a, c) refl; pps = rw (a, c) refl }
finds f limit NoSet (OneSet s b) (OneSet p c) =
    let b = sps_is (f.kind s) b in let c = pps_is (f.kind p) c in
    record { vps = rw (b, c) refl; sps = rw (b, c) refl; pps = rw (b, c) refl }
finds f limit (OneSet v a) (OneSet s b) (OneSet p c) =
    let a = vps_is (f.kind v) a in let b = sps_is (f.kind s) b in let c = pps_is (f.kind p) c in
    record { vps = rw (a, b, c) refl; sps = rw (a, b, c) refl; pps = rw (a, b, c) refl }

-- the sets that wait say as much as the entries that brought them
pub waiting_same : (f : Format) (limit : ℕ) (front : List Entry) → SameSets f (as_entries limit (latest_sets f front)) front
waiting_same f limit front =
    let h = finds f limit (one_latest is_vps f front) (one_latest is_sps f front) (one_latest is_pps f front) in
    record { vps = h.vps; sps = h.sps; pps = h.pps }

-- none of these units is an other unit
NoOthers : Format → List (List ℕ) → Type 0
NoOthers f [] = Unit {0}
NoOthers f (u ∷ units) = (is_other (f.kind u) ≡ false) × NoOthers f units

-- units that are no other units only lengthen the front: nothing is sent when they come
passed : (f : Format) (limit : ℕ) (front : List Entry) (sets : List (List ℕ)) (after : List Entry) → NoOthers f sets →
    tail f front (as_entries limit sets ++ after) ≡ tail f (front ++ as_entries limit sets) after
unfolding tail as_entries as_entry NoOthers
passed f limit front [] after every = rw append-nil refl
passed f limit front (u ∷ sets) after (here, later) =
    let e = as_entry limit u in
    rw here (passed f limit (front ++ e ∷ []) sets after later
    ∙ ap (λ (x : List Entry). tail f x after) (append_assoc front (e ∷ []) (as_entries limit sets)))

-- none is an other unit with a set, or nothing, before them
one_no_other : (is_it : Kind → Bool) (f : Format) {v : List (List ℕ)} → ((k : Kind) → is_it k ≡ true → is_other k ≡ false) →
    IsOneSet is_it f v → (rest : List (List ℕ)) → NoOthers f rest → NoOthers f (v ++ rest)
unfolding NoOthers
one_no_other is_it f different NoSet rest later = later
one_no_other is_it f different (OneSet u h) rest later = (different (f.kind u) h, later)

-- no set that waits is an other unit
sets_no_other : (f : Format) (front : List Entry) → NoOthers f (latest_sets f front)
unfolding NoOthers
sets_no_other f front =
    let vps = latest_of_kind is_vps f front in let sps = latest_of_kind is_sps f front in let pps = latest_of_kind is_pps f front in
    subst (NoOthers f) (sym (append_assoc vps sps pps))
    (one_no_other is_vps f (λ k h. rw (vps_is k h) refl) (one_latest is_vps f front) (sps ++ pps)
    (one_no_other is_sps f (λ k h. rw (sps_is k h) refl) (one_latest is_sps f front) pps
    (subst (NoOthers f) (append-nil pps)
    (one_no_other is_pps f (λ k h. rw (pps_is k h) refl) (one_latest is_pps f front) [] tt))))

-- an other unit says nothing to what follows
other_same : (f : Format) (e : Entry) → is_other (f.kind e.unit) ≡ true → SameSets f (e ∷ []) []
other_same f e h = let k = other_is (f.kind e.unit) h in record { vps = rw k refl; sps = rw k refl; pps = rw k refl }

-- the units of items
units_of_items : List Item → List (List ℕ)
units_of_items items = flat_map item_units items

-- the units of these items are planned as these items
abbrev AreSentAgain : Format → ℕ → List Item → Type 0
AreSentAgain f limit items = tail f [] (as_entries limit (units_of_items items)) ≡ items

-- an other unit that is not dropped is sent alone when it comes
item_kept : (f : Format) (limit : ℕ) (u : List ℕ) → is_other (f.kind u) ≡ true → is_dropped f limit u ≡ false →
    entry_items f (as_entry limit u) ≡ Alone limit u ∷ []
unfolding as_entry
item_kept f limit u other kept = rw (other, kept) refl

-- a unit that is no other unit is not sent when it comes
item_none : (f : Format) (limit : ℕ) (u : List ℕ) → is_other (f.kind u) ≡ false → entry_items f (as_entry limit u) ≡ []
unfolding as_entry
item_none f limit u other = rw other refl

-- an other unit with nothing before it is sent, and what follows is sent as after nothing
first_other : (f : Format) (limit : ℕ) (u : List ℕ) (after : List Entry) → is_other (f.kind u) ≡ true →
    tail f [] (as_entry limit u ∷ after) ≡ entry_items f (as_entry limit u) ++ tail f [] after
unfolding tail as_entry
first_other f limit u after other =
    let e = as_entry limit u in
    let never : completes_group f [] e ≡ false = and-false (is_other (f.kind u) && false) in
    rw never (ap (λ (x : List Item). entry_items f e ++ x) (same-tail f (e ∷ []) [] after (other_same f e other)))

-- before a unit that completes a group the sets are sent, and what follows is sent as after nothing
first_done : (f : Format) (limit : ℕ) (front : List Entry) (u : List ℕ) (after : List Entry) → completes_group f front (as_entry limit u) ≡ true →
    tail f front (as_entry limit u ∷ after) ≡ sets_items f limit (latest_sets f front) u ++ (entry_items f (as_entry limit u) ++ tail f [] after)
unfolding tail as_entry
first_done f limit front u after done = rw done refl

-- a unit that completes a group is an other unit
done_other : (f : Format) (limit : ℕ) (front : List Entry) (u : List ℕ) → completes_group f front (as_entry limit u) ≡ true → is_other (f.kind u) ≡ true
unfolding as_entry
done_other f limit front u done = (and_parts _ _ (and_parts _ _ done).0).0

-- what was sent from a group's end on, sent again, is sent as it was
end_again : (f : Format) (limit : ℕ) (front : List Entry) (u : List ℕ) (rest : List Item) → completes_group f front (as_entry limit u) ≡ true →
    is_dropped f limit u ≡ false → units_of_items (sets_items f limit (latest_sets f front) u) ≡ latest_sets f front →
    AreSentAgain f limit rest → AreSentAgain f limit (sets_items f limit (latest_sets f front) u ++ (entry_items f (as_entry limit u) ++ rest))
unfolding units_of_items as_entries
end_again f limit front u rest done kept sets again =
    let e = as_entry limit u in
    let other = done_other f limit front u done in
    let item = item_kept f limit u other kept in
    let units : units_of_items (sets_items f limit (latest_sets f front) u ++ (entry_items f e ++ rest)) ≡ latest_sets f front ++ (u ∷ units_of_items rest) =
    flat_map-append item_units (sets_items f limit (latest_sets f front) u) (entry_items f e ++ rest) ∙ rw (sets, item) refl in
    ap (λ (us : List (List ℕ)). tail f [] (as_entries limit us)) units
    ∙ ap (tail f []) (map-append (as_entry limit) (latest_sets f front) (u ∷ units_of_items rest))
    ∙ passed f limit [] (latest_sets f front) (as_entries limit (u ∷ units_of_items rest)) (sets_no_other f front)
    ∙ same-tail f (as_entries limit (latest_sets f front)) front (as_entries limit (u ∷ units_of_items rest)) (waiting_same f limit front)
    ∙ first_done f limit front u (as_entries limit (units_of_items rest)) done
    ∙ ap (λ (x : List Item). sets_items f limit (latest_sets f front) u ++ (entry_items f e ++ x)) again

-- so is what was sent from an entry on that ends no group
entry_again : (f : Format) (limit : ℕ) (u : List ℕ) (rest : List Item) → (is_other (f.kind u) ≡ true → is_dropped f limit u ≡ false) →
    AreSentAgain f limit rest → AreSentAgain f limit (entry_items f (as_entry limit u) ++ rest)
unfolding units_of_items as_entries
entry_again f limit u rest kept again =
    elim (is_other (f.kind u)) as (λ b. is_other (f.kind u) ≡ b → AreSentAgain f limit (entry_items f (as_entry limit u) ++ rest)) [
      | true ↦ λ other. let alone = item_kept f limit u other (kept other) in
          rw alone (first_other f limit u (as_entries limit (units_of_items rest)) other ∙ rw (alone, again) refl)
      | false ↦ λ other. rw (item_none f limit u other) again
    ] refl

-- The plan of what was sent is the plan that it was sent by.
pub sent_again : (f : Format) (limit : ℕ) (front : List Entry) (units : List (List ℕ)) → Kept f limit front units →
    tail f [] (as_entries limit (flat_map item_units (tail f front (as_entries limit units)))) ≡ tail f front (as_entries limit units)
unfolding tail as_entries as_entry Kept units_of_items
sent_again f limit front [] kept = refl
sent_again f limit front (u ∷ units) (unit_kept, sets_kept, later) =
    let e = as_entry limit u in
    elim (completes_group f front e) as (λ b. completes_group f front e ≡ b → Kept f limit (cond b [] (front ++ e ∷ [])) units →
    AreSentAgain f limit (cond b
    (sets_items f limit (latest_sets f front) u ++ (entry_items f e ++ tail f [] (as_entries limit units)))
    (entry_items f e ++ tail f (front ++ e ∷ []) (as_entries limit units)))) [
      | true ↦ λ done others.
          let kept = unit_kept (done_other f limit front u done) in
          end_again f limit front u (tail f [] (as_entries limit units)) done kept (sets_kept done) (sent_again f limit [] units others)
      | false ↦ λ never others.
          entry_again f limit u (tail f (front ++ e ∷ []) (as_entries limit units)) unit_kept (sent_again f limit (front ++ e ∷ []) units others)
    ] refl later

-- A plan may be made call by call: what came before counts by the sets that wait.
pub plans_call_by_call : (f : Format) → PlansCallByCall f
unfolding as_entries as_entry
plans_call_by_call f limit before entries =
    let rest = (split f before).rest in
    plan-append f before entries
    ∙ ap (λ (x : List Item). plan f before ++ x) (
    sym (same-tail f (as_entries limit (latest_sets f rest)) rest entries (waiting_same f limit rest))
    ∙ sym (passed f limit [] (latest_sets f rest) entries (sets_no_other f rest))
    ∙ sym (plan-tail f (as_entries limit (latest_sets f rest) ++ entries)))

-- two lists of entries leave what the second leaves after the rest of the first
rest-append : (f : Format) (front us vs : List Entry) → (split_from f front (us ++ vs)).rest ≡ (split_from f (split_from f front us).rest vs).rest
rest-append f front [] vs = refl
rest-append f front (e ∷ us) vs =
    elim (completes_group f front e) as (λ b.
    (cond b (with_group (record { front = front; last = e }) (split_from f [] (us ++ vs))) (split_from f (front ++ e ∷ []) (us ++ vs))).rest
    ≡ (split_from f (cond b (with_group (record { front = front; last = e }) (split_from f [] us)) (split_from f (front ++ e ∷ []) us)).rest vs).rest) [
      | true ↦ rest-append f [] us vs
      | false ↦ rest-append f (front ++ e ∷ []) us vs
    ]

-- fronts with the same sets leave rests with the same sets
same-rest : (f : Format) (a b entries : List Entry) → SameSets f a b → SameSets f (split_from f a entries).rest (split_from f b entries).rest
same-rest f a b [] s = s
same-rest f a b (e ∷ entries) s =
    rw (same-completes f a b e s) (
    elim (completes_group f b e) as (λ t.
    SameSets f (cond t (with_group (record { front = a; last = e }) (split_from f [] entries)) (split_from f (a ++ e ∷ []) entries)).rest
    (cond t (with_group (record { front = b; last = e }) (split_from f [] entries)) (split_from f (b ++ e ∷ []) entries)).rest) [
      | true ↦ record { vps = refl; sps = refl; pps = refl }
      | false ↦ same-rest f (a ++ e ∷ []) (b ++ e ∷ []) entries (same-push f a b e s)
    ])

-- units that are no other units only lengthen the front, for the rest too
passed_rest : (f : Format) (limit : ℕ) (front : List Entry) (sets : List (List ℕ)) (after : List Entry) → NoOthers f sets →
    (split_from f front (as_entries limit sets ++ after)).rest ≡ (split_from f (front ++ as_entries limit sets) after).rest
unfolding as_entries as_entry NoOthers
passed_rest f limit front [] after every = rw append-nil refl
passed_rest f limit front (u ∷ sets) after (here, later) =
    let e = as_entry limit u in
    rw here (passed_rest f limit (front ++ e ∷ []) sets after later
    ∙ ap (λ (x : List Entry). (split_from f x after).rest) (append_assoc front (e ∷ []) (as_entries limit sets)))

-- The sets that wait in the end may be found call by call.
pub waits_call_by_call : (f : Format) → WaitsCallByCall f
unfolding as_entries as_entry
waits_call_by_call f limit before entries =
    let rest = (split f before).rest in
    ap (latest_sets f) (rest-append f [] before entries)
    ∙ sym (same-sets f _ _ (same-rest f (as_entries limit (latest_sets f rest)) rest entries (waiting_same f limit rest)))
    ∙ sym (ap (latest_sets f) (passed_rest f limit [] (latest_sets f rest) entries (sets_no_other f rest)))
