use Rattle.std.proofs.Common.{subst, sym, ◌∙◌, ◌≡◌, List, ℕ}
use Rattle.h26x_packetizer.proofs.HeldLemmas.{same_sets}
use Rattle.h26x_packetizer.proofs.packetizer.PayloadPacketizer.with_lowest_header.Goals as goal

pub invariant_of-self : goal.invariant_of-self
invariant_of-self g c =
    let held = c.self.invariant in
    let old = c.self.inside.codec in
    let new = c.with_lowest_header-self-inside.result in
    let is = sym c.with_lowest_header-self-inside.ensures in
    let same : (unit : List ℕ) → (g.C.PayloadFormat.format old).kind unit ≡ (g.C.PayloadFormat.format new).kind unit =
    λ unit. subst (λ (x : g.row.C.Denot). (g.C.PayloadFormat.format old).kind unit ≡ (g.C.PayloadFormat.format x).kind unit) is (g.met.C.LowestHeaderFormat.kind_kept old c.args.lowest_header unit) in
    let donl = subst (λ (x : g.row.C.Denot). (g.C.PayloadFormat.format old).has_donl ≡ (g.C.PayloadFormat.format x).has_donl) is (g.met.C.LowestHeaderFormat.donl_kept old c.args.lowest_header) in
    let sets = same_sets (g.C.PayloadFormat.format old) (g.C.PayloadFormat.format new) _ same held.is.sets in
    record { is = record { sets = sets; small = held.is.small; size = held.is.size }; none = λ off. held.none (donl ∙ off) }
