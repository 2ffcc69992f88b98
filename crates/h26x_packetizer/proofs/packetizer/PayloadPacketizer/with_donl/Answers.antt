use Rattle.std.proofs.Common.{refl, arith, subst, sym, ◌≡◌, List, ℕ}
use Rattle.h26x_packetizer.proofs.HeldLemmas.{same_sets}
use Rattle.h26x_packetizer.proofs.packetizer.PayloadPacketizer.with_donl.Goals as goal

pub invariant_of-self : goal.invariant_of-self
invariant_of-self g c =
    let held = c.self.invariant in
    let same : (unit : List ℕ) → (g.C.PayloadFormat.format c.self.inside.codec).kind unit ≡ (g.C.PayloadFormat.format c.with_donl-self-inside.result).kind unit =
    λ unit. subst (λ (new : g.row.C.Denot). (g.C.PayloadFormat.format c.self.inside.codec).kind unit ≡ (g.C.PayloadFormat.format new).kind unit) (sym c.with_donl-self-inside.ensures) (g.met.C.DonlFormat.same_kind c.self.inside.codec c.args.has_donl unit) in
    let sets = same_sets (g.C.PayloadFormat.format c.self.inside.codec) (g.C.PayloadFormat.format c.with_donl-self-inside.result) _ same held.is.sets in
    record { is = record { sets = sets; small = omega arith; size = held.is.size }; none = λ _. refl }
