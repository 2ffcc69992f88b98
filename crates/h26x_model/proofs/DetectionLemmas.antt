-- Packets that are known to hold or begin a key unit.
use Rattle.std.proofs.Common.{◌≡◌, ℕ, zero, suc, ◌+◌, ◌-◌, ◌<◌, Bool, true, false, cond, eqb, List, [], ◌∷◌, length, map, replicate, refl, sym, ap, ◌∙◌, arith}
use Rattle.std.specs.Prelude.{IsTrue, ◌&&◌}
use Rattle.std.specs.List.{range_with_len, AllByRecursion}
use Rattle.std.proofs.lemmas.List.FromFn.{length-map-range_with_len}
use Rattle.std.proofs.lemmas.Bool.Decides.{nat_tests}
use Rattle.h26x_model.specs.Payload.Format.{Format}
use Rattle.h26x_model.specs.Send.Plan.{Item, Alone, Together, fits_one_packet, item_units}
use Rattle.h26x_model.specs.Send.Packets.{single_packet, fragment, fragments, fragment_count, fragment_body}
use Rattle.h26x_model.specs.Payload.Facts.{ReadsWhatItWrites, KnowsKeyUnits, IsPlanned}
use Rattle.h26x_model.specs.Carry.Detection.{IsDetected, AreDetected}
use Rattle.h26x_model.proofs.ReadBackLemmas.{bounds}

-- fragments behind the first are not detected
later_undetected : (f : Format) (n limit : ℕ) (unit : List ℕ) (j m : ℕ) → KnowsKeyUnits f → IsTrue (f.carries unit) → 0 < j →
    map f.detects (map (fragment f n limit unit) (range_with_len j m)) ≡ replicate m false
later_undetected f n limit unit j zero knows carried pos = refl
later_undetected f n limit unit j (suc m) knows carried pos =
    let not_first : eqb j 0 ≡ false = grind (arith, nat_tests) in
    let here : f.detects (fragment f n limit unit j) ≡ false =
    knows.fragment unit (fragment_body f n limit unit j) (eqb j 0) (eqb (j + 1) (fragment_count f limit unit)) carried ∙ ap (λ (first : Bool). first && f.is_key unit) not_first in
    ap (λ (x : Bool). x ∷ map f.detects (map (fragment f n limit unit) (range_with_len (j + 1) m))) here
    ∙ ap (λ (x : List Bool). false ∷ x) (later_undetected f n limit unit (j + 1) m knows carried (omega arith))

-- of m + 1 fragments that are all the first is detected where the unit is a key unit, and no other is
fragments_detected : (f : Format) (n limit : ℕ) (unit : List ℕ) (m : ℕ) → KnowsKeyUnits f → IsTrue (f.carries unit) → suc m ≡ fragment_count f limit unit →
    map f.detects (fragments f n limit unit) ≡ f.is_key unit ∷ replicate (length (fragments f n limit unit) - 1) false
fragments_detected f n limit unit m knows carried count =
    let long = length-map-range_with_len (fragment f n limit unit) 0 (fragment_count f limit unit) in
    let others : m ≡ length (fragments f n limit unit) - 1 = omega (arith, long) in
    ap (λ k. map f.detects (map (fragment f n limit unit) (range_with_len 0 k))) (sym count)
    ∙ ap (λ (x : Bool). x ∷ map f.detects (map (fragment f n limit unit) (range_with_len 1 m)))
    (knows.fragment unit (fragment_body f n limit unit 0) true (eqb (0 + 1) (fragment_count f limit unit)) carried)
    ∙ ap (λ (x : List Bool). f.is_key unit ∷ x) (later_undetected f n limit unit 1 m knows carried (omega arith) ∙ ap (λ k. replicate k false) others)

-- an item's packets tell of its key unit
item_detected : (f : Format) (n : ℕ) (item : Item) → KnowsKeyUnits f → ReadsWhatItWrites f → IsPlanned f item → IsDetected f n item
item_detected f n (Together limit sets unit) knows sound (is, fit, two, carried, last, none_key) =
    λ unnumbered. knows.sets n limit sets unit unnumbered is fit carried last none_key
item_detected f n (Alone limit unit) knows sound (carried, kept) =
    elim (fits_one_packet f limit unit) as (λ b. fits_one_packet f limit unit ≡ b →
    map f.detects (cond b (single_packet f n unit ∷ []) (fragments f n limit unit))
    ≡ f.is_key unit ∷ replicate (length (cond b (single_packet f n unit ∷ []) (fragments f n limit unit)) - 1) false) [
      | true ↦ λ fit. ap (λ (x : Bool). x ∷ []) (knows.single n unit carried)
      | false ↦ λ unfit.
          let (b, two) = bounds f n limit unit unfit kept (sound.header unit carried) in
          fragments_detected f n limit unit (fragment_count f limit unit - 1) knows carried (omega (arith, two))
    ] refl

-- item by item, with decoding order numbers from n on
pub are_detected : (f : Format) → KnowsKeyUnits f → ReadsWhatItWrites f → (n : ℕ) (items : List Item) → AllByRecursion (IsPlanned f) items → AreDetected f n items
are_detected f knows sound n [] planned = tt
are_detected f knows sound n (item ∷ items) planned =
    (item_detected f n item knows sound planned.0, are_detected f knows sound (n + length (item_units item)) items planned.1)
