-- The packets of items that come one after the other.
use Rattle.std.proofs.Common.{◌≡◌, ℕ, ◌+◌, List, [], ◌∷◌, ◌++◌, length, sym, ap, ◌∙◌, append_assoc, length-append, arith}
use Rattle.std.specs.List.{flat_map}
use Rattle.h26x_model.specs.Payload.Format.{Format}
use Rattle.h26x_model.specs.Send.Plan.{Item, item_units}
use Rattle.h26x_model.specs.Send.Packets.{item_packets, plan_packets}

-- the packets of two lists of items: those of the second are numbered on
pub packets-append : (f : Format) (n : ℕ) (a b : List Item) →
    plan_packets f n (a ++ b) ≡ plan_packets f n a ++ plan_packets f (n + length (flat_map item_units a)) b
packets-append f n [] b = ap (λ k. plan_packets f k b) same where
  same : n ≡ n + 0
  same = omega arith
packets-append f n (item ∷ a) b =
    let here = item_packets f n item in
    let next = n + length (item_units item) in
    let len = length-append (item_units item) (flat_map item_units a) in
    let same : next + length (flat_map item_units a) ≡ n + length (flat_map item_units (item ∷ a)) = omega (arith, len) in
    ap (λ (x : List (List ℕ)). here ++ x) (packets-append f next a b ∙ ap (λ k. plan_packets f next a ++ plan_packets f k b) same)
    ∙ sym (append_assoc here (plan_packets f next a) (plan_packets f (n + length (flat_map item_units (item ∷ a))) b))
