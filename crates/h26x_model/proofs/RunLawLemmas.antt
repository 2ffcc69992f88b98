-- What some of the packets of a plan bring, and what is sent again.
use Rattle.std.proofs.Common.{◌≡◌, ℕ, ◌+◌, ◌≤◌, Bool, true, false, List, [], ◌∷◌, ◌++◌, length, length-append, map, take, drop, Option, refl, sym, ap, ◌∙◌, subst, arith}
use Rattle.std.specs.Prelude.{nat_lt}
use Rattle.std.specs.List.{flat_map}
use Rattle.std.proofs.lemmas.List.{append-nil, length-take, length-drop, map-append, take-append-drop}
use Rattle.std.proofs.lemmas.Bool.Decides.{nat_tests}
use Rattle.h26x_model.specs.Payload.Format.{Format}
use Rattle.h26x_core.specs.ByteStream.{annex_b}
use Rattle.h26x_model.specs.Send.Calls.{Call, AreCalls, call_limit, call_entries, all_entries}
use Rattle.h26x_model.specs.Send.Group.{Entry}
use Rattle.h26x_model.specs.Send.Plan.{Item, item_units, plan, units_sent}
use Rattle.h26x_model.specs.Send.WaitingSets.{entries_with_limit}
use Rattle.h26x_model.specs.Send.Packets.{item_packets, plan_packets}
use Rattle.h26x_model.specs.Send.Again.{NothingDropped}
use Rattle.h26x_model.specs.Carry.Loss.{keep, AreMasks, packets_left}
use Rattle.h26x_model.specs.Payload.Facts.{IsPayloadFormat, AreCarried}
use Rattle.h26x_model.specs.Send.PacketizerState.{PacketizerState, IsPacketizerState, state_plan, state_units, state_packets}
use Rattle.h26x_model.specs.Receive.DepacketizerState.{Depacketization, readings_units}
use Rattle.h26x_model.specs.Carry.Laws.{LosesLittle, SendsAgain, calls_like}
use Rattle.h26x_model.proofs.LossLemmas.{items_left}
use Rattle.h26x_model.proofs.SentLemmas.{can_send, entries_of_calls}
use Rattle.h26x_model.proofs.SteadyLemmas.{steady}
use Rattle.h26x_model.proofs.SenderLemmas.{sender_plans}
use Rattle.h26x_model.proofs.ReceiverLemmas.{after_is_from, readings_of_run, open_again}

-- what a mask keeps of two lists
kept_parts : (mask : List Bool) (a b : List (List ℕ)) → keep mask (a ++ b) ≡ keep (take (length a) mask) a ++ keep (drop (length a) mask) b
kept_parts mask [] b = refl
kept_parts [] (x ∷ a) [] = refl
kept_parts [] (x ∷ a) (y ∷ b) = refl
kept_parts (true ∷ mask) (x ∷ a) b = ap (λ (l : List (List ℕ)). x ∷ l) (kept_parts mask a b)
kept_parts (false ∷ mask) (x ∷ a) b = kept_parts mask a b

-- a mask of all packets, item by item
abbrev masks_of : Format → ℕ → List Item → List Bool → List (List Bool)
masks_of f n [] mask = []
masks_of f n (item ∷ items) mask =
    take (length (item_packets f n item)) mask ∷ masks_of f (n + length (item_units item)) items (drop (length (item_packets f n item)) mask)

-- behind the mask of an item is one of the packets of the others
rest_long : (f : Format) (n : ℕ) (item : Item) (items : List Item) (mask : List Bool) → length mask ≡ length (plan_packets f n (item ∷ items)) →
    length (drop (length (item_packets f n item)) mask) ≡ length (plan_packets f (n + length (item_units item)) items)
rest_long f n item items mask long =
    let here = length (item_packets f n item) in
    let whole = length-append (item_packets f n item) (plan_packets f (n + length (item_units item)) items) in
    let d = length-drop here mask in
    omega (arith, long, whole, d)

-- it has one mask for each item
masks_fit : (f : Format) (n : ℕ) (items : List Item) (mask : List Bool) → length mask ≡ length (plan_packets f n items) → AreMasks f n items (masks_of f n items mask)
masks_fit f n [] mask long = tt
masks_fit f n (item ∷ items) mask long =
    let here = length (item_packets f n item) in
    let later = plan_packets f (n + length (item_units item)) items in
    let whole = length-append (item_packets f n item) later in
    let t = length-take here mask in
    let first : length (take here mask) ≡ here = omega (arith, long, whole, t) in
    (first, masks_fit f (n + length (item_units item)) items (drop here mask) (rest_long f n item items mask long))

-- joined they are the mask
masks_joined : (f : Format) (n : ℕ) (items : List Item) (mask : List Bool) → length mask ≡ length (plan_packets f n items) → flat_map (λ (m : List Bool). m) (masks_of f n items mask) ≡ mask
masks_joined f n [] [] long = refl
masks_joined f n [] (b ∷ mask) long = absurd (omega (arith, long))
masks_joined f n (item ∷ items) mask long =
    let here = length (item_packets f n item) in
    ap (λ (m : List Bool). take here mask ++ m) (masks_joined f (n + length (item_units item)) items (drop here mask) (rest_long f n item items mask long))
    ∙ take-append-drop here mask

-- and keeps the same packets
masks_keep : (f : Format) (n : ℕ) (items : List Item) (mask : List Bool) → packets_left f n items (masks_of f n items mask) ≡ keep mask (plan_packets f n items)
masks_keep f n [] [] = refl
masks_keep f n [] (true ∷ mask) = refl
masks_keep f n [] (false ∷ mask) = refl
masks_keep f n (item ∷ items) mask =
    let here = length (item_packets f n item) in
    ap (λ (x : List (List ℕ)). keep (take here mask) (item_packets f n item) ++ x) (masks_keep f (n + length (item_units item)) items (drop here mask))
    ∙ sym (kept_parts mask (item_packets f n item) (plan_packets f (n + length (item_units item)) items))

-- what is left of a plan is brought item by item
pub loses_little : (s : PacketizerState) (w : Depacketization) (calls : List Call) → IsPayloadFormat s.format → IsPacketizerState s → AreCalls calls → w.state.format ≡ s.format →
    AreCarried s.format (state_units s (all_entries s.format calls)) → (mask : List Bool) → length mask ≡ length (state_packets s (all_entries s.format calls)) → LosesLittle s w calls mask
loses_little s w calls ok is small same carried mask long =
    let f = s.format in
    let items = state_plan s (all_entries f calls) in
    let send = can_send f ok.reads items (sender_plans s is ok.sets ok.other (all_entries f calls) (entries_of_calls f calls small) carried) in
    let masks = masks_of f s.next_don items mask in
    let fit = masks_fit f s.next_don items mask long in
    let same_left = masks_keep f s.next_don items mask in
    let run = w.state.run in
    let (written, left, brings) = items_left f s.next_don items masks (readings_of_run run) ok.reads send fit in
    record {
      masks = masks;
      written = written;
      of_items = fit;
      same = same_left;
      joined = masks_joined f s.next_don items mask long;
      left = left;
      brings = ap (λ (g : Format). readings_units run (map g.read (keep mask (state_packets s (all_entries f calls))))) same
          ∙ ap (λ (x : List (List ℕ)). readings_units run (map f.read x)) (sym same_left)
          ∙ ap (λ (x : Option (List ℕ)). readings_units x (map f.read (packets_left f s.next_don items masks))) (sym (open_again run))
          ∙ sym (after_is_from (readings_of_run run) (map f.read (packets_left f s.next_don items masks))) ∙ brings;
    }

-- the entries of a call that is large enough
large_enough : (f : Format) (call : Call) → f.least_mtu ≤ call.mtu → call_entries f call ≡ entries_with_limit (call_limit f call) (f.units call.payload)
large_enough f call enough =
    let no : nat_lt call.mtu f.least_mtu ≡ false = grind (arith, nat_tests) in
    rw no refl

-- calls at one limit are the entries of their payloads' units
one_limit : (f : Format) (call : Call) (payloads : List (List ℕ)) → f.least_mtu ≤ call.mtu →
    all_entries f (calls_like call payloads) ≡ entries_with_limit (call_limit f call) (flat_map f.units payloads)
one_limit f call [] enough = refl
one_limit f call (payload ∷ payloads) enough =
    ap (λ (x : List Entry). x ++ all_entries f (calls_like call payloads)) (large_enough f (record call { payload = payload }) enough)
    ∙ ap (λ (x : List Entry). entries_with_limit (call_limit f call) (f.units payload) ++ x) (one_limit f call payloads enough)
    ∙ sym (map-append (λ (unit : List ℕ). record { unit = unit; limit = call_limit f call }) (f.units payload) (flat_map f.units payloads))

-- what was sent is sent again
pub sends_again : (f : Format) → SendsAgain f
sends_again f call payloads enough kept_all cut =
    let units = flat_map f.units payloads in
    let limit = call_limit f call in
    let first = one_limit f call payloads enough in
    let us = units_sent f (all_entries f (calls_like call payloads)) in
    let again = steady f limit units (subst (NothingDropped f) first kept_all) in
    let is : us ≡ units_sent f (entries_with_limit limit units) = ap (units_sent f) first in
    ap (λ (x : List Entry). plan_packets f 0 (plan f x)) (append-nil (call_entries f (record call { payload = annex_b us })) ∙ large_enough f (record call { payload = annex_b us }) enough ∙ ap (entries_with_limit limit) (cut ∙ is))
    ∙ ap (plan_packets f 0) again.same_plan ∙ ap (λ (x : List Entry). plan_packets f 0 (plan f x)) (sym first)
