-- A plan may be made unit by unit, by the sets that wait; what waits counts as units that come first.
use Rattle.std.proofs.Common.{◌≡◌, ℕ, true, false, cond, List, [], ◌∷◌, ◌++◌, refl, sym, ap, ◌∙◌, append_assoc}
use Rattle.std.specs.Prelude.{◌&&◌}
use Rattle.std.proofs.lemmas.List.{map-append}
use Rattle.h26x_core.specs.Kind.{Skipped, Vps, Sps, Pps, Other, is_vps, is_sps, is_pps}
use Rattle.h26x_core.specs.ByteStream.{is_not_empty}
use Rattle.h26x_model.specs.Payload.Format.{Format}
use Rattle.h26x_model.specs.Send.Group.{Entry, completes_group, split_from, with_group, split, latest_of_kind, latest_sets}
use Rattle.h26x_model.specs.Send.Plan.{entry_items, sets_items, plan}
use Rattle.h26x_model.specs.Send.WaitingSets.{WaitingSets, no_waiting_sets, sets_waiting, sets_are_sent, waiting_after_unit, outgoing_items, plan_with_waiting, waiting_after, entries_with_limit, IsOneSet, NoSet, OneSet, AreWaitingSets}
use Rattle.h26x_model.proofs.PlanLemmas.{tail, plan-tail, any-latest, latest-push}
use Rattle.h26x_model.proofs.AgainLemmas.{vps_is, sps_is, pps_is}

-- the sets that wait after a front of which nothing has been taken
abbrev pub waiting_in : Format → List Entry → WaitingSets
waiting_in f front = record { vps = latest_of_kind is_vps f front; sps = latest_of_kind is_sps f front; pps = latest_of_kind is_pps f front }

-- an entry completes a group where the sets that wait are due
completes-is : (f : Format) (front : List Entry) (e : Entry) → completes_group f front e ≡ sets_are_sent (f.kind e.unit) (waiting_in f front)
completes-is f front e = rw (any-latest is_sps f front, any-latest is_pps f front) refl

-- what waits after a front and an entry that completes no group: a set takes the place of an earlier one
abbrev waiting_next : Format → List Entry → Entry → WaitingSets
waiting_next f front e = record {
  vps = cond (is_vps (f.kind e.unit)) (e.unit ∷ []) (latest_of_kind is_vps f front);
  sps = cond (is_sps (f.kind e.unit)) (e.unit ∷ []) (latest_of_kind is_sps f front);
  pps = cond (is_pps (f.kind e.unit)) (e.unit ∷ []) (latest_of_kind is_pps f front);
}

-- that is what waits after the front with this entry
push : (f : Format) (front : List Entry) (e : Entry) → waiting_in f (front ++ e ∷ []) ≡ waiting_next f front e
push f front e = rw (latest-push is_vps f front e, latest-push is_sps f front e, latest-push is_pps f front e) refl

-- what is sent after a front is what is sent unit by unit while its sets wait
tail-with : (f : Format) (front entries : List Entry) → tail f front entries ≡ plan_with_waiting f (waiting_in f front) entries
unfolding tail
tail-with f front [] = refl
tail-with f front (e ∷ entries) =
    let sets = sets_items f e.limit (latest_sets f front) e.unit in
    let here = entry_items f e in
    let next = front ++ e ∷ [] in
    ap (λ b. cond b (sets ++ (here ++ tail f [] entries)) (here ++ tail f next entries)) (completes-is f front e)
    ∙ elim (sets_are_sent (f.kind e.unit) (waiting_in f front)) as (λ b.
    cond b (sets ++ (here ++ tail f [] entries)) (here ++ tail f next entries)
    ≡ (cond b sets [] ++ here) ++ plan_with_waiting f (cond b no_waiting_sets (waiting_next f front e)) entries) [
      | true ↦ ap (λ x. sets ++ (here ++ x)) (tail-with f [] entries) ∙ sym (append_assoc sets here (plan_with_waiting f no_waiting_sets entries))
      | false ↦ ap (λ x. here ++ x) (tail-with f next entries ∙ ap (λ w. plan_with_waiting f w entries) (push f front e))
    ]

-- a plan, unit by unit
pub plan-with : (f : Format) (entries : List Entry) → plan f entries ≡ plan_with_waiting f no_waiting_sets entries
plan-with f entries = plan-tail f entries ∙ tail-with f [] entries

-- the sets of the rest are those that wait in the end, unit by unit
rest-with : (f : Format) (front entries : List Entry) →
    waiting_in f (split_from f front entries).rest ≡ waiting_after f (waiting_in f front) entries
rest-with f front [] = refl
rest-with f front (e ∷ entries) =
    let done = with_group (record { front = front; last = e }) (split_from f [] entries) in
    let next = split_from f (front ++ e ∷ []) entries in
    ap (λ b. waiting_in f (cond b done next).rest) (completes-is f front e)
    ∙ elim (sets_are_sent (f.kind e.unit) (waiting_in f front)) as (λ b.
    waiting_in f (cond b done next).rest ≡ waiting_after f (cond b no_waiting_sets (waiting_next f front e)) entries) [
      | true ↦ rest-with f [] entries
      | false ↦ rest-with f (front ++ e ∷ []) entries ∙ ap (λ w. waiting_after f w entries) (push f front e)
    ]

-- the sets that wait after entries, unit by unit
pub waits-with : (f : Format) (entries : List Entry) → waiting_in f (split f entries).rest ≡ waiting_after f no_waiting_sets entries
waits-with f entries = rest-with f [] entries

-- when this entry comes nothing is sent, and then these sets wait
pub record SetComes (f : Format) (w later : WaitingSets) (e : Entry) : Type 0 where
  pub now : outgoing_items f w e ≡ []
  pub then_ : waiting_after_unit f w e.unit ≡ later

-- a VPS is not sent when it comes: it waits, in place of an earlier one
vps_comes : (f : Format) (w : WaitingSets) (e : Entry) → is_vps (f.kind e.unit) ≡ true → SetComes f w (record w { vps = e.unit ∷ [] }) e
vps_comes f w e is = let h = vps_is (f.kind e.unit) is in record { now = rw h refl; then_ = rw h refl }

-- so does an SPS
sps_comes : (f : Format) (w : WaitingSets) (e : Entry) → is_sps (f.kind e.unit) ≡ true → SetComes f w (record w { sps = e.unit ∷ [] }) e
sps_comes f w e is = let h = sps_is (f.kind e.unit) is in record { now = rw h refl; then_ = rw h refl }

-- and a PPS
pps_comes : (f : Format) (w : WaitingSets) (e : Entry) → is_pps (f.kind e.unit) ≡ true → SetComes f w (record w { pps = e.unit ∷ [] }) e
pps_comes f w e is = let h = pps_is (f.kind e.unit) is in record { now = rw h refl; then_ = rw h refl }

-- one list of entries while some sets wait, and another while others do, are sent alike and leave the same sets
abbrev ComesToSame : Format → WaitingSets → List Entry → WaitingSets → List Entry → Type 0
ComesToSame f w entries v others = (plan_with_waiting f w entries ≡ plan_with_waiting f v others) × (waiting_after f w entries ≡ waiting_after f v others)

-- where no VPS waits, at most one that comes first counts as one that waits
with_vps : (f : Format) (limit : ℕ) (vps : List (List ℕ)) (w : WaitingSets) (entries : List Entry) → w.vps ≡ [] → IsOneSet is_vps f vps →
    ComesToSame f w (entries_with_limit limit vps ++ entries) (record w { vps = vps }) entries
with_vps f limit vps w entries none NoSet = (rw none refl, rw none refl)
with_vps f limit vps w entries none (OneSet unit is) =
    let s = vps_comes f w (record { unit = unit; limit = limit }) is in (rw (s.now, s.then_) refl, rw s.then_ refl)

-- so with an SPS
with_sps : (f : Format) (limit : ℕ) (sps : List (List ℕ)) (w : WaitingSets) (entries : List Entry) → w.sps ≡ [] → IsOneSet is_sps f sps →
    ComesToSame f w (entries_with_limit limit sps ++ entries) (record w { sps = sps }) entries
with_sps f limit sps w entries none NoSet = (rw none refl, rw none refl)
with_sps f limit sps w entries none (OneSet unit is) =
    let s = sps_comes f w (record { unit = unit; limit = limit }) is in (rw (s.now, s.then_) refl, rw s.then_ refl)

-- and with a PPS
with_pps : (f : Format) (limit : ℕ) (pps : List (List ℕ)) (w : WaitingSets) (entries : List Entry) → w.pps ≡ [] → IsOneSet is_pps f pps →
    ComesToSame f w (entries_with_limit limit pps ++ entries) (record w { pps = pps }) entries
with_pps f limit pps w entries none NoSet = (rw none refl, rw none refl)
with_pps f limit pps w entries none (OneSet unit is) =
    let s = pps_comes f w (record { unit = unit; limit = limit }) is in (rw (s.now, s.then_) refl, rw s.then_ refl)

-- the sets that wait come as a VPS, an SPS and a PPS
regrouped : (f : Format) (limit : ℕ) (w : WaitingSets) (entries : List Entry) →
    entries_with_limit limit (sets_waiting w) ++ entries ≡ entries_with_limit limit w.vps ++ (entries_with_limit limit w.sps ++ (entries_with_limit limit w.pps ++ entries))
regrouped f limit w entries = simp (map-append, append_assoc) refl

-- what waits counts for the plan as entries that come first
pub plan-waiting : (f : Format) (limit : ℕ) (w : WaitingSets) (entries : List Entry) → AreWaitingSets f w →
    plan f (entries_with_limit limit (sets_waiting w) ++ entries) ≡ plan_with_waiting f w entries
plan-waiting f limit w entries sets =
    plan-with f (entries_with_limit limit (sets_waiting w) ++ entries) ∙ ap (plan_with_waiting f no_waiting_sets) (regrouped f limit w entries)
    ∙ (with_vps f limit w.vps no_waiting_sets (entries_with_limit limit w.sps ++ (entries_with_limit limit w.pps ++ entries)) refl sets.vps).0
    ∙ (with_sps f limit w.sps (record no_waiting_sets { vps = w.vps }) (entries_with_limit limit w.pps ++ entries) refl sets.sps).0
    ∙ (with_pps f limit w.pps (record { vps = w.vps; sps = w.sps; pps = [] }) entries refl sets.pps).0

-- and so for what waits in the end
pub waits-waiting : (f : Format) (limit : ℕ) (w : WaitingSets) (entries : List Entry) → AreWaitingSets f w →
    latest_sets f (split f (entries_with_limit limit (sets_waiting w) ++ entries)).rest ≡ sets_waiting (waiting_after f w entries)
waits-waiting f limit w entries sets = ap sets_waiting (
    waits-with f (entries_with_limit limit (sets_waiting w) ++ entries) ∙ ap (waiting_after f no_waiting_sets) (regrouped f limit w entries)
    ∙ (with_vps f limit w.vps no_waiting_sets (entries_with_limit limit w.sps ++ (entries_with_limit limit w.pps ++ entries)) refl sets.vps).1
    ∙ (with_sps f limit w.sps (record no_waiting_sets { vps = w.vps }) (entries_with_limit limit w.pps ++ entries) refl sets.sps).1
    ∙ (with_pps f limit w.pps (record { vps = w.vps; sps = w.sps; pps = [] }) entries refl sets.pps).1)

-- what waits after a unit are sets, each of its kind
pub sets_stay : (f : Format) (w : WaitingSets) (unit : List ℕ) → AreWaitingSets f w → AreWaitingSets f (waiting_after_unit f w unit)
sets_stay f w unit sets = elim (f.kind unit) as (λ k. f.kind unit ≡ k → AreWaitingSets f (waiting_after_unit f w unit)) [
  | Skipped ↦ λ h. rw h sets
  | Vps ↦ λ h. rw h (record { vps = OneSet unit (ap is_vps h); sps = sets.sps; pps = sets.pps })
  | Sps ↦ λ h. rw h (record { vps = sets.vps; sps = OneSet unit (ap is_sps h); pps = sets.pps })
  | Pps ↦ λ h. rw h (record { vps = sets.vps; sps = sets.sps; pps = OneSet unit (ap is_pps h) })
  | Other ↦ λ h. rw h (elim (is_not_empty w.sps && is_not_empty w.pps) as (λ b. AreWaitingSets f (cond b no_waiting_sets w)) [
    | true ↦ record { vps = NoSet; sps = NoSet; pps = NoSet }
    | false ↦ sets
  ])
] refl

-- what waits after entries are sets, each of its kind
pub sets_stay_all : (f : Format) (w : WaitingSets) (entries : List Entry) → AreWaitingSets f w → AreWaitingSets f (waiting_after f w entries)
sets_stay_all f w [] sets = sets
sets_stay_all f w (e ∷ entries) sets = sets_stay_all f (waiting_after_unit f w e.unit) entries (sets_stay f w e.unit sets)
