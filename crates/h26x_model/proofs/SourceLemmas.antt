-- Each unit that is sent came, or waited.
use Rattle.std.proofs.Common.{◌≡◌, ℕ, ◌≤◌, Bool, true, false, cond, List, [], ◌∷◌, ◌++◌, map, refl, sym, ap, ◌∙◌, subst, arith}
use Rattle.std.specs.Prelude.{filter, nat_lt}
use Rattle.std.specs.List.{flat_map, AllByRecursion, Contains}
use Rattle.std.proofs.lemmas.List.Elements.{recursion_from_All, All-contains_itself}
use Rattle.std.proofs.lemmas.Bool.Decides.{nat_tests}
use Rattle.h26x_core.specs.Kind.{is_vps, is_sps, is_pps, is_other}
use Rattle.h26x_model.specs.Payload.Format.{Format}
use Rattle.h26x_core.specs.ByteStream.{annex_b}
use Rattle.h26x_model.specs.Send.Group.{Entry}
use Rattle.h26x_model.specs.Send.Calls.{Call, call_limit, call_entries, all_entries, all_packets}
use Rattle.h26x_model.specs.Send.Plan.{Item, Alone, Together, fits_one_packet, is_dropped, item_units, unit_items, entry_items, sets_items, units_sent}
use Rattle.h26x_model.specs.Send.WaitingSets.{WaitingSets, no_waiting_sets, sets_waiting, sets_are_sent, waiting_after_unit, outgoing_items, plan_with_waiting, entries_with_limit}
use Rattle.h26x_model.specs.Send.Again.{NothingDropped}
use Rattle.h26x_model.specs.Send.PacketizerState.{PacketizerState, state_units}
use Rattle.h26x_model.specs.Carry.Laws.{calls_like}
use Rattle.h26x_model.proofs.LimitLemmas.{all_both, all_joined}
use Rattle.h26x_model.proofs.SentLemmas.{all_parts}
use Rattle.h26x_model.proofs.WaitLemmas.{plan-with}
use Rattle.h26x_model.proofs.RunLawLemmas.{sends_again}

-- something holds of each set that waits
record HoldOf (P : List ℕ → Type 0) (w : WaitingSets) : Type 0 where
  vps : AllByRecursion P w.vps
  sps : AllByRecursion P w.sps
  pps : AllByRecursion P w.pps

-- so it does of the three together
of_sets : (P : List ℕ → Type 0) (w : WaitingSets) → HoldOf P w → AllByRecursion P (sets_waiting w)
of_sets P w h = all_both P (w.vps ++ w.sps) w.pps (all_both P w.vps w.sps h.vps h.sps) h.pps

-- and the other way round
each_set : (P : List ℕ → Type 0) (w : WaitingSets) → AllByRecursion P (sets_waiting w) → HoldOf P w
each_set P w all =
    let (others, pps) = all_parts P (w.vps ++ w.sps) w.pps all in
    let (vps, sps) = all_parts P w.vps w.sps others in
    record { vps = vps; sps = sps; pps = pps }

-- what holds of a unit and of what waited holds of whichever waits now
newer : (P : List ℕ → Type 0) (is_it : Bool) (unit : List ℕ) (old : List (List ℕ)) → P unit → AllByRecursion P old →
    AllByRecursion P (cond is_it (unit ∷ []) old)
newer P true unit old here h = (here, tt)
newer P false unit old here h = h

-- what holds of the sets that wait and of a unit holds of those that wait after it
still_hold : (f : Format) (P : List ℕ → Type 0) (w : WaitingSets) (unit : List ℕ) → P unit → HoldOf P w → HoldOf P (waiting_after_unit f w unit)
still_hold f P w unit here h =
    let k = f.kind unit in
    elim (sets_are_sent k w) as (λ b. HoldOf P (cond b no_waiting_sets (record {
      vps = cond (is_vps k) (unit ∷ []) w.vps;
      sps = cond (is_sps k) (unit ∷ []) w.sps;
      pps = cond (is_pps k) (unit ∷ []) w.pps;
    }))) [
      | true ↦ record { vps = tt; sps = tt; pps = tt }
      | false ↦ record { vps = newer P (is_vps k) unit w.vps here h.vps; sps = newer P (is_sps k) unit w.sps here h.sps; pps = newer P (is_pps k) unit w.pps here h.pps }
    ]

-- something holds of each unit of each item
abbrev OfItems : (List ℕ → Type 0) → List Item → Type 0
OfItems P items = AllByRecursion (λ item. AllByRecursion P (item_units item)) items

-- of sets that go alone
each_alone : (P : List ℕ → Type 0) (limit : ℕ) (goes : List ℕ → Bool) (sets : List (List ℕ)) → AllByRecursion P sets →
    OfItems P (map (Alone limit) (filter goes sets))
each_alone P limit goes [] h = tt
each_alone P limit goes (set ∷ sets) (here, later) = elim (goes set) as (λ b. OfItems P (map (Alone limit) (cond b (set ∷ filter goes sets) (filter goes sets)))) [
  | true ↦ ((here, tt), each_alone P limit goes sets later)
  | false ↦ each_alone P limit goes sets later
]

-- of sets that are due
outgoing_sets : (f : Format) (P : List ℕ → Type 0) (limit : ℕ) (sets : List (List ℕ)) (unit : List ℕ) → AllByRecursion P sets → OfItems P (sets_items f limit sets unit)
outgoing_sets f P limit sets unit h = elim (f.sets_fit limit sets) as (λ b.
    OfItems P (cond b (Together limit sets unit ∷ []) (map (Alone limit) (filter (fits_one_packet f limit) sets)))) [
      | true ↦ (h, tt)
      | false ↦ each_alone P limit (fits_one_packet f limit) sets h
    ]

-- of an entry's unit
of_entry : (f : Format) (P : List ℕ → Type 0) (e : Entry) → P e.unit → OfItems P (entry_items f e)
of_entry f P e here = elim (is_other (f.kind e.unit)) as (λ b. OfItems P (cond b (unit_items f e.limit e.unit) [])) [
  | true ↦ elim (is_dropped f e.limit e.unit) as (λ b. OfItems P (cond b [] (Alone e.limit e.unit ∷ []))) [ true ↦ tt | false ↦ ((here, tt), tt) ]
  | false ↦ tt
]

-- of what goes when an entry comes
of_now : (f : Format) (P : List ℕ → Type 0) (w : WaitingSets) (e : Entry) → HoldOf P w → P e.unit → OfItems P (outgoing_items f w e)
of_now f P w e h here =
    let sets = sets_items f e.limit (sets_waiting w) e.unit in
    all_both (λ item. AllByRecursion P (item_units item)) (cond (sets_are_sent (f.kind e.unit) w) sets []) (entry_items f e)
    (elim (sets_are_sent (f.kind e.unit) w) as (λ b. OfItems P (cond b sets [])) [ true ↦ outgoing_sets f P e.limit (sets_waiting w) e.unit (of_sets P w h) | false ↦ tt ])
    (of_entry f P e here)

-- of what goes of entries
of_plan : (f : Format) (P : List ℕ → Type 0) (w : WaitingSets) (entries : List Entry) → HoldOf P w → AllByRecursion (λ e. P e.unit) entries → OfItems P (plan_with_waiting f w entries)
of_plan f P w [] h all = tt
of_plan f P w (e ∷ entries) h (here, later) =
    all_both (λ item. AllByRecursion P (item_units item)) (outgoing_items f w e) (plan_with_waiting f (waiting_after_unit f w e.unit) entries)
    (of_now f P w e h here) (of_plan f P (waiting_after_unit f w e.unit) entries (still_hold f P w e.unit here h) later)

-- of the units of items
of_units : (P : List ℕ → Type 0) (items : List Item) → OfItems P items → AllByRecursion P (flat_map item_units items)
of_units P [] h = tt
of_units P (item ∷ items) (here, later) = all_both P (item_units item) (flat_map item_units items) here (of_units P items later)

-- what holds of the sets that wait and of the units that come holds of the units that are sent
pub sent_hold : (s : PacketizerState) (P : List ℕ → Type 0) (entries : List Entry) → AllByRecursion P (sets_waiting s.waiting) → AllByRecursion (λ e. P e.unit) entries →
    AllByRecursion P (state_units s entries)
sent_hold s P entries waiting all =
    of_units P (plan_with_waiting s.format s.waiting entries) (of_plan s.format P s.waiting entries (each_set P s.waiting waiting) all)

-- where something holds of each image it holds so of each element
of_images : {A B : Type 0} (P : B → Type 0) (g : A → B) (xs : List A) → AllByRecursion P (map g xs) → AllByRecursion (λ x. P (g x)) xs
of_images P g [] all = tt
of_images P g (x ∷ xs) (here, later) = (here, of_images P g xs later)

-- so each unit sent is a set that waited or a unit that came
pub sent_came : (s : PacketizerState) (entries : List Entry) → AllByRecursion (Contains (sets_waiting s.waiting ++ map (λ e. e.unit) entries)) (state_units s entries)
sent_came s entries =
    let there = sets_waiting s.waiting ++ map (λ e. e.unit) entries in
    let (waiting, came) = all_parts (Contains there) (sets_waiting s.waiting) (map (λ e. e.unit) entries) (recursion_from_All (Contains there) there (All-contains_itself there)) in
    sent_hold s (Contains there) entries waiting (of_images (Contains there) (λ e. e.unit) entries came)

-- what holds of units holds of them at a limit
all_at : (P : List ℕ → Type 0) (limit : ℕ) (units : List (List ℕ)) → AllByRecursion P units → AllByRecursion (λ e. P e.unit) (entries_with_limit limit units)
all_at P limit [] all = tt
all_at P limit (unit ∷ units) (here, later) = (here, all_at P limit units later)

-- what holds of the units of payloads holds of what a call brings
of_call : (f : Format) (P : List ℕ → Type 0) → ((payload : List ℕ) → AllByRecursion P (f.units payload)) → (call : Call) → AllByRecursion (λ e. P e.unit) (call_entries f call)
of_call f P each call =
    let limit = call_limit f call in
    elim (nat_lt call.mtu f.least_mtu) as (λ b. AllByRecursion (λ e. P e.unit) (cond b [] (entries_with_limit limit (f.units call.payload)))) [
      | true ↦ tt
      | false ↦ all_at P limit (f.units call.payload) (each call.payload)
    ]

-- and of all that is sent of calls
calls_hold : (f : Format) (P : List ℕ → Type 0) → ((payload : List ℕ) → AllByRecursion P (f.units payload)) → (calls : List Call) → AllByRecursion P (units_sent f (all_entries f calls))
calls_hold f P each calls =
    let entries = all_entries f calls in
    subst (λ (items : List Item). AllByRecursion P (flat_map item_units items)) (sym (plan-with f entries))
    (of_units P (plan_with_waiting f no_waiting_sets entries) (of_plan f P no_waiting_sets entries (record { vps = tt; sps = tt; pps = tt })
    (all_joined (λ e. P e.unit) (call_entries f) calls (of_call f P each))))

-- calls under the least mtu bring nothing
none_brought : (f : Format) (call : Call) (payloads : List (List ℕ)) → nat_lt call.mtu f.least_mtu ≡ true → all_entries f (calls_like call payloads) ≡ []
none_brought f call [] small = refl
none_brought f call (payload ∷ payloads) small = rw small (none_brought f call payloads small)

-- what calls like one sent is sent again, where the text of units like those of payloads is cut into them
pub sent_again : (f : Format) (P : List ℕ → Type 0) → ((payload : List ℕ) → AllByRecursion P (f.units payload)) →
    (call : Call) (payloads units : List (List ℕ)) → NothingDropped f (all_entries f (calls_like call payloads)) →
    units ≡ units_sent f (all_entries f (calls_like call payloads)) → (AllByRecursion P units → f.units (annex_b units) ≡ units) →
    all_packets f 0 (record call { payload = annex_b units } ∷ []) ≡ all_packets f 0 (calls_like call payloads)
sent_again f P each call payloads units kept is cut = elim (nat_lt call.mtu f.least_mtu) as (λ b. nat_lt call.mtu f.least_mtu ≡ b →
    all_packets f 0 (record call { payload = annex_b units } ∷ []) ≡ all_packets f 0 (calls_like call payloads)) [
      | true ↦ λ small. rw (small, none_brought f call payloads small) refl
      | false ↦ λ large.
          let enough : f.least_mtu ≤ call.mtu = grind (arith, nat_tests) in
          let back = cut (subst (AllByRecursion P) (sym is) (calls_hold f P each (calls_like call payloads))) in
          ap (λ (us : List (List ℕ)). all_packets f 0 (record call { payload = annex_b us } ∷ [])) is
          ∙ sends_again f call payloads enough kept (ap (λ (us : List (List ℕ)). f.units (annex_b us)) (sym is) ∙ back ∙ is)
    ] refl
