-- Packets of what can be sent are not refused.
use Rattle.std.proofs.Common.{◌≡◌, ℕ, zero, suc, ◌+◌, ◌<◌, ◌≤◌, true, false, cond, List, [], ◌∷◌, length, map, refl, sym, subst, arith}
use Rattle.std.specs.List.{AllByRecursion, range_with_len}
use Rattle.h26x_model.specs.Payload.Format.{Format}
use Rattle.h26x_model.specs.Send.Plan.{Item, Alone, Together, fits_one_packet, item_units}
use Rattle.h26x_model.specs.Send.Packets.{single_packet, fragment, fragments, fragment_count, item_packets, plan_packets}
use Rattle.h26x_model.specs.Payload.Reading.{IsRead}
use Rattle.h26x_model.specs.Payload.Facts.{ReadsWhatItWrites, CanSend}
use Rattle.h26x_model.proofs.LimitLemmas.{all_both}
use Rattle.h26x_model.proofs.FragmentLemmas.{reads_fragments}

-- what holds at each place holds of what is made there
each_place : {A : Type 0} (P : A → Type 0) (g : ℕ → A) (a n : ℕ) → ((i : ℕ) → a ≤ i → i < a + n → P (g i)) → AllByRecursion P (map g (range_with_len a n))
each_place P g a zero holds = tt
each_place P g a (suc n) holds = (holds a (omega arith) (omega arith), each_place P g (a + 1) n (λ i low high. holds i (omega arith) (omega arith)))

-- the packets of an item are read
item_read : (f : Format) → ReadsWhatItWrites f → (n : ℕ) (item : Item) → CanSend f item → AllByRecursion (λ packet. IsRead (f.read packet)) (item_packets f n item)
item_read f sound n (Alone limit unit) (carried, kept) =
    elim (fits_one_packet f limit unit) as (λ b. fits_one_packet f limit unit ≡ b → AllByRecursion (λ packet. IsRead (f.read packet)) (cond b (single_packet f n unit ∷ []) (fragments f n limit unit))) [
      | true ↦ λ _. (subst IsRead (sym (sound.single n unit carried)) tt, tt)
      | false ↦ λ unfit. each_place (λ packet. IsRead (f.read packet)) (fragment f n limit unit) 0 (fragment_count f limit unit)
          (λ j _ within. subst IsRead (sym (reads_fragments f sound n limit unit unfit kept carried j (omega arith))) tt)
    ] refl
item_read f sound n (Together limit sets unit) reads = (subst IsRead (sym (reads n)) tt, tt)

-- so are those of all items
pub all_read : (f : Format) → ReadsWhatItWrites f → (n : ℕ) (items : List Item) → AllByRecursion (CanSend f) items →
    AllByRecursion (λ packet. IsRead (f.read packet)) (plan_packets f n items)
all_read f sound n [] send = tt
all_read f sound n (item ∷ items) (here, later) =
    all_both (λ packet. IsRead (f.read packet)) (item_packets f n item) (plan_packets f (n + length (item_units item)) items)
    (item_read f sound n item here) (all_read f sound (n + length (item_units item)) items later)
