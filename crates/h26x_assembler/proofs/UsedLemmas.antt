-- Of the packets of calls bytes stand of each, and behind them no run is open.
use Rattle.std.proofs.Common.{◌≡◌, ℕ, zero, suc, ◌+◌, ◌-◌, ◌<◌, true, false, cond, eqb, eq-eqb, List, [], ◌∷◌, ◌++◌, length, length-append, map, take, drop, None, Some, refl, sym, ap, ◌∙◌, arith}
use Rattle.std.specs.Prelude.{◌==◌, IsTrue}
use Rattle.std.specs.List.{AllByRecursion, range_with_len}
use Rattle.std.proofs.lemmas.List.{length-drop, length-take}
use Rattle.std.proofs.lemmas.Bool.Decides.{nat_tests}
use Rattle.h26x_model.specs.Payload.Facts.{IsPayloadFormat, ReadsWhatItWrites, IsPlanned, AreCarried}
use Rattle.h26x_model.specs.Payload.Format.{Format, donl_len}
use Rattle.h26x_model.specs.Send.Calls.{Call, AreCalls, all_entries}
use Rattle.h26x_model.specs.Send.PacketizerState.{PacketizerState, IsPacketizerState, state_units, state_plan, state_packets}
use Rattle.h26x_model.specs.Send.Plan.{Item, Alone, Together, fits_one_packet, item_units}
use Rattle.h26x_model.specs.Send.Packets.{single_packet, fragment, fragments, fragment_count, fragmented_bytes, fragment_room, fragment_body, item_packets, plan_packets}
use Rattle.h26x_model.proofs.ReadBackLemmas.{later_read, first_read, Bounds, bounds, place_below}
use Rattle.h26x_model.proofs.SenderLemmas.{sender_plans}
use Rattle.h26x_model.proofs.SentLemmas.{entries_of_calls}
use Rattle.h26x_assembler.specs.AnyUnits.{are_used}

-- a run with bytes is not closed
some_open : (r more : List ℕ) → 0 < length r → (length (r ++ more) == 0) ≡ false
some_open r more some = let both = length-append r more in grind (arith, nat_tests, both)

-- the fragments from place j on, where a run with bytes is open
rest_used : (f : Format) (n limit : ℕ) (unit : List ℕ) (j m : ℕ) (r : List ℕ) (others : List (List ℕ)) → ReadsWhatItWrites f → IsTrue (f.carries unit) →
    Bounds f n limit unit → 0 < j → j + suc m ≡ fragment_count f limit unit → 0 < length r →
    are_used f (Some r) (map (fragment f n limit unit) (range_with_len j (suc m)) ++ others) ≡ are_used f None others
rest_used f n limit unit j zero r others sound carried b pos count some =
    let last : eqb (j + 1) (fragment_count f limit unit) ≡ true = eq-eqb (j + 1) (fragment_count f limit unit) (omega arith) in
    let at = place_below j (fragment_count f limit unit) (fragment_room f limit) (length (fragmented_bytes f n unit)) (omega arith) b.lower in
    rw (later_read f n limit unit j sound carried pos (omega (arith, b.large)) at, last) refl
rest_used f n limit unit j (suc m) r others sound carried b pos count some =
    let more : eqb (j + 1) (fragment_count f limit unit) ≡ false = grind (arith, nat_tests) in
    let at = place_below j (fragment_count f limit unit) (fragment_room f limit) (length (fragmented_bytes f n unit)) (omega arith) b.lower in
    let part = fragment_body f n limit unit j in
    let open_then = some_open r part some in
    let long = length-append r part in
    rw (later_read f n limit unit j sound carried pos (omega (arith, b.large)) at, more, open_then)
    (rest_used f n limit unit (j + 1) m (r ++ part) others sound carried b (omega arith) (omega arith) (omega (arith, long, some)))

-- all fragments, of which there are at least two
fragments_used : (f : Format) (n limit : ℕ) (unit : List ℕ) (m : ℕ) (others : List (List ℕ)) → ReadsWhatItWrites f → IsTrue (f.carries unit) →
    Bounds f n limit unit → suc (suc m) ≡ fragment_count f limit unit →
    are_used f None (map (fragment f n limit unit) (range_with_len 0 (suc (suc m))) ++ others) ≡ are_used f None others
fragments_used f n limit unit m others sound carried b count =
    let more : eqb 1 (fragment_count f limit unit) ≡ false = grind (arith, nat_tests) in
    let body = drop (donl_len f) (take (fragment_room f limit) (fragmented_bytes f n unit)) in
    let dropped = length-drop (donl_len f) (take (fragment_room f limit) (fragmented_bytes f n unit)) in
    let taken = length-take (fragment_room f limit) (fragmented_bytes f n unit) in
    let some : 0 < length body = omega (arith, dropped, taken, b.large, b.some) in
    let open_then : (length body == 0) ≡ false = grind (arith, nat_tests, some) in
    rw (first_read f n limit unit sound carried b.large b.some, more, open_then)
    (rest_used f n limit unit 1 m body others sound carried b (omega arith) (omega arith) some)

-- the packets of an item
item_used : (f : Format) (n : ℕ) (item : Item) (others : List (List ℕ)) → ReadsWhatItWrites f → IsPlanned f item →
    are_used f None (item_packets f n item ++ others) ≡ are_used f None others
item_used f n (Alone limit unit) others sound (carried, kept) =
    elim (fits_one_packet f limit unit) as (λ b. fits_one_packet f limit unit ≡ b →
    are_used f None (cond b (single_packet f n unit ∷ []) (fragments f n limit unit) ++ others) ≡ are_used f None others) [
      | true ↦ λ fits. rw (sound.single n unit carried) refl
      | false ↦ λ unfit.
          let (b, two) = bounds f n limit unit unfit kept (sound.header unit carried) in
          let count : suc (suc (fragment_count f limit unit - 2)) ≡ fragment_count f limit unit = omega (arith, two) in
          ap (λ (k : ℕ). are_used f None (map (fragment f n limit unit) (range_with_len 0 k) ++ others)) (sym count)
          ∙ fragments_used f n limit unit (fragment_count f limit unit - 2) others sound carried b count
    ] refl
item_used f n (Together limit [] unit) others sound (is, fit, two, carried, last, keys) = absurd (omega (arith, two))
item_used f n (Together limit (set ∷ sets) unit) others sound (is, fit, two, carried, last, keys) =
    rw (sound.sets n limit (set ∷ sets) unit is fit two carried last) refl

-- those of a plan
plan_used : (f : Format) (n : ℕ) (items : List Item) → ReadsWhatItWrites f → AllByRecursion (IsPlanned f) items → are_used f None (plan_packets f n items) ≡ true
plan_used f n [] sound planned = refl
plan_used f n (item ∷ items) sound (here, later) =
    item_used f n item (plan_packets f (n + length (item_units item)) items) sound here ∙ plan_used f (n + length (item_units item)) items sound later

-- those of a call
pub calls_used : (s : PacketizerState) (call : Call) → IsPayloadFormat s.format → IsPacketizerState s → AreCalls (call ∷ []) → AreCarried s.format (state_units s (all_entries s.format (call ∷ []))) →
    are_used s.format None (state_packets s (all_entries s.format (call ∷ []))) ≡ true
calls_used s call ok is small carried =
    let entries = all_entries s.format (call ∷ []) in
    plan_used s.format s.next_don (state_plan s entries) ok.reads (sender_plans s is ok.sets ok.other entries (entries_of_calls s.format (call ∷ []) small) carried)
