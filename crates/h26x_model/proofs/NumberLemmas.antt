-- The numbers that units are sent with.
use Rattle.std.proofs.Common.{◌≡◌, ℕ, zero, suc, ◌+◌, ◌-◌, ◌<◌, ◌≤◌, Bool, true, false, cond, eqb, List, [], ◌∷◌, ◌++◌, length, map, Option, refl, sym, ap, ◌∙◌, length-append, arith}
use Rattle.std.specs.List.{flat_map, range_with_len, AllByRecursion}
use Rattle.std.proofs.lemmas.List.{append-nil}
use Rattle.std.proofs.lemmas.List.Concat.{flat_map-append}
use Rattle.std.proofs.lemmas.Bool.Decides.{nat_tests}
use Rattle.h26x_model.specs.Payload.Reading.{Fragment}
use Rattle.h26x_model.specs.Payload.Format.{Format}
use Rattle.h26x_model.specs.Send.Plan.{Item, Alone, Together, fits_one_packet, item_units}
use Rattle.h26x_model.specs.Send.Packets.{single_packet, fragment, fragments, fragment_count, item_packets, plan_packets}
use Rattle.h26x_model.specs.Send.Fragments.{ReadsFragments}
use Rattle.h26x_model.specs.Payload.Don.{don_sent, with_dons, dons_of, DonsInOrder}
use Rattle.h26x_model.specs.Payload.Facts.{ReadsWhatItWrites, CanSend}
use Rattle.h26x_model.proofs.ReadBackLemmas.{bounds}
use Rattle.h26x_model.proofs.FragmentLemmas.{reads_fragments}

-- a range is its first a places and the b places behind them
range_parts : {X : Type 0} (g : ℕ → X) (s a b : ℕ) → map g (range_with_len s (a + b)) ≡ map g (range_with_len s a) ++ map g (range_with_len (s + a) b)
range_parts g s zero b =
    let none : 0 + b ≡ b = omega arith in
    let same : s ≡ s + 0 = omega arith in
    ap (λ k. map g (range_with_len s k)) none ∙ ap (λ k. map g (range_with_len k b)) same
range_parts g s (suc a) b =
    let more : suc a + b ≡ suc (a + b) = omega arith in
    let place : s + 1 + a ≡ s + suc a = omega arith in
    ap (λ k. map g (range_with_len s k)) more
    ∙ ap (λ xs. g s ∷ xs) (range_parts g (s + 1) a b ∙ ap (λ k. map g (range_with_len (s + 1) a) ++ map g (range_with_len k b)) place)

-- places counted on from n
counted_on : {X : Type 0} (g : ℕ → X) (n s m : ℕ) → map g (range_with_len (n + s) m) ≡ map (λ i. g (n + i)) (range_with_len s m)
counted_on g n s zero = refl
counted_on g n s (suc m) =
    let next : n + s + 1 ≡ n + (s + 1) = omega arith in
    ap (λ xs. g (n + s) ∷ xs) (ap (λ k. map g (range_with_len k m)) next ∙ counted_on g n (s + 1) m)

-- the numbers of the units that packets hold or begin
abbrev numbers_borne : Format → List (List ℕ) → List (Option ℕ)
numbers_borne f ps = flat_map (λ packet. dons_of (f.read packet)) ps

-- a fragment that starts no unit bears no number
no_start_no_number : (start end : Bool) (head : List ℕ) (don : Option ℕ) (body : List ℕ) → start ≡ false → dons_of (Fragment start end head don body) ≡ []
no_start_no_number true end head don body e = absurd cc
no_start_no_number false end head don body e = refl

-- so the fragments behind the first bear none
later_bear_none : (f : Format) (n limit : ℕ) (unit : List ℕ) (j m : ℕ) → ReadsFragments f n limit unit → 0 < j → j + m ≤ fragment_count f limit unit →
    numbers_borne f (map (fragment f n limit unit) (range_with_len j m)) ≡ []
later_bear_none f n limit unit j zero reads pos within = refl
later_bear_none f n limit unit j (suc m) reads pos within =
    let not_first : eqb j 0 ≡ false = grind (arith, nat_tests) in
    ap (λ (x : List (Option ℕ)). x ++ numbers_borne f (map (fragment f n limit unit) (range_with_len (j + 1) m)))
    (ap dons_of (reads j (omega arith)) ∙ no_start_no_number (eqb j 0) _ _ _ _ not_first)
    ∙ later_bear_none f n limit unit (j + 1) m reads (omega arith) (omega arith)

-- a unit's fragments bear its number once
fragments_bear : (f : Format) (n limit : ℕ) (unit : List ℕ) (m : ℕ) → ReadsFragments f n limit unit → suc m ≡ fragment_count f limit unit →
    numbers_borne f (fragments f n limit unit) ≡ don_sent f n ∷ []
fragments_bear f n limit unit m reads count =
    ap (λ k. numbers_borne f (map (fragment f n limit unit) (range_with_len 0 k))) (sym count)
    ∙ ap (λ (x : List (Option ℕ)). x ++ numbers_borne f (map (fragment f n limit unit) (range_with_len 1 m))) (ap dons_of (reads 0 (omega arith)))
    ∙ ap (λ (x : List (Option ℕ)). don_sent f n ∷ x) (later_bear_none f n limit unit 1 m reads (omega arith) (omega arith))

-- sets in one packet bear numbers from n on
sets_bear : (f : Format) (n : ℕ) (sets : List (List ℕ)) → map (λ (u : List ℕ × Option ℕ). u.1) (with_dons f n sets) ≡ map (don_sent f) (range_with_len n (length sets))
sets_bear f n [] = refl
sets_bear f n (set ∷ sets) = ap (λ (x : List (Option ℕ)). don_sent f n ∷ x) (sets_bear f (n + 1) sets)

-- an item's packets bear the numbers of its units
item_bears : (f : Format) (n : ℕ) (item : Item) → ReadsWhatItWrites f → CanSend f item →
    numbers_borne f (item_packets f n item) ≡ map (don_sent f) (range_with_len n (length (item_units item)))
item_bears f n (Together limit sets unit) sound send =
    append-nil (dons_of (f.read (f.sets_packet n sets unit))) ∙ ap dons_of (send n) ∙ sets_bear f n sets
item_bears f n (Alone limit unit) sound send =
    elim (fits_one_packet f limit unit) as (λ b. fits_one_packet f limit unit ≡ b → numbers_borne f (cond b (single_packet f n unit ∷ []) (fragments f n limit unit)) ≡ don_sent f n ∷ []) [
      | true ↦ λ fit. append-nil (dons_of (f.read (single_packet f n unit))) ∙ ap dons_of (sound.single n unit send.0)
      | false ↦ λ unfit.
          let (b, two) = bounds f n limit unit unfit send.1 (sound.header unit send.0) in
          fragments_bear f n limit unit (fragment_count f limit unit - 1) (reads_fragments f sound n limit unit unfit send.1 send.0) (omega (arith, two))
    ] refl

-- the packets of items bear the numbers from n on
items_bear : (f : Format) (n : ℕ) (items : List Item) → ReadsWhatItWrites f → AllByRecursion (CanSend f) items →
    numbers_borne f (plan_packets f n items) ≡ map (don_sent f) (range_with_len n (length (flat_map item_units items)))
items_bear f n [] sound send = refl
items_bear f n (item ∷ items) sound send =
    let here = length (item_units item) in
    let later = length (flat_map item_units items) in
    flat_map-append (λ packet. dons_of (f.read packet)) (item_packets f n item) (plan_packets f (n + here) items)
    ∙ ap (λ (x : List (Option ℕ)). x ++ numbers_borne f (plan_packets f (n + here) items)) (item_bears f n item sound send.0)
    ∙ ap (λ (x : List (Option ℕ)). map (don_sent f) (range_with_len n here) ++ x) (items_bear f (n + here) items sound send.1)
    ∙ sym (range_parts (don_sent f) n here later)
    ∙ ap (λ k. map (don_sent f) (range_with_len n k)) (sym (length-append (item_units item) (flat_map item_units items)))

-- the unit at place i has number n + i
pub numbers_are : (f : Format) → ReadsWhatItWrites f → (n : ℕ) (items : List Item) → AllByRecursion (CanSend f) items → DonsInOrder f n items
numbers_are f sound n items send =
    let same : n ≡ n + 0 = omega arith in
    let count = length (flat_map item_units items) in
    items_bear f n items sound send ∙ ap (λ k. map (don_sent f) (range_with_len k count)) same ∙ counted_on (don_sent f) n 0 count
